-- What a query prints and counts over a file, and over what a sifting keeps of it, is one.
use Rattle.std.proofs.Common.{◌≡◌, ℕ, zero, suc, ◌+◌, ◌<◌, ◌≤◌, ◌==◌, ◌⊎◌, cond, eqb, ltb, Bool, true, false, List, [], ◌∷◌, ◌++◌, ◌/◌, length, map, get_or, take, filter, decimal, refl, sym, ◌∙◌, ap, arith, inl, inr, length-append}
use Rattle.std.proofs.lemmas.Bool.{cases_lt, false≢true, lt-ltb}
use Rattle.std.proofs.lemmas.List.{append-nil, take-map, length-map, take-append-le}
use Rattle.std.proofs.lemmas.List.Concat.{flat_map-append}
use Rattle.std.proofs.lemmas.List.Elements.{recursion_from_All}
use Rattle.std.proofs.lemmas.List.Sums.{sum_by-cons, sum_by-append}
use Rattle.std.proofs.Math.Seq.{take-append-add}
use Rattle.std.specs.Prelude.{codes, sum_by}
use Rattle.std.specs.List.{AllByRecursion, filter_map, flat_map}
use Rattle.std.specs.Str.{bytes_eq}
use Rattle.mr_bytes.specs.declared.RecordName.{RecordName}
use Rattle.mr_bytes.specs.declared.Value.{Value}
use Rattle.mr_input.specs.Files.{nth_file, split_count, total_size}
use Rattle.mr_jobs.specs.JobSpec.{JobSpec}
use Rattle.mr_jobs.specs.Emissions.{Emission, emissions, keys_of, value_at}
use Rattle.mr_records.specs.Records.{Record, records}
use Rattle.mr_records.specs.RecordLaw.{BeginsALine}
use Rattle.mr_records.proofs.LawLemmas.{start_where_lines_begin}
use Rattle.mr_records.proofs.RecordLemmas.{nil_case}
use Rattle.mr_splits.specs.Named.{NamedRecord, named_from, named_files}
use Rattle.mr_splits.specs.Cut.{record_named, records_of}
use Rattle.mr_splits.specs.Kept.{kept_records}
use Rattle.mr_explain.specs.Explained.{evidence, explanation, feeds_before, head_of, is_wanted, kept_of, label_of, left_out_text, line_at, listing, nth_source, pair_total, pairs_of, pairs_with, summary_line, summary_of, value_count}
use Rattle.mr_explain.specs.Sifting.{AreCutAtLines, DropsOnly, Dropped, EndsLine, Heading, IsQueryOver, IsSifting, Kept, KeptLines, Piece, SiftedFile, SiftingIsExact, SiftingIsNoLonger, as_file, feeds_in, heading_of, joined, kept_files, kept_from, whole_file}
use Rattle.mr_explain.specs.Explained.{IsUnwanted}
use Rattle.mr_explain.specs.declared.query.Query.{Query}
use Rattle.mr_explain.specs.declared.query.SourceFile.{SourceFile}
use Rattle.mr_explain.specs.declared.query.Wanted.{Wanted}
use Rattle.mr_explain.specs.declared.query.Wanted.TheVariants.{Key, Nothing}
use Rattle.mr_explain.proofs.CountLemmas.{count_by-append}
use Rattle.mr_explain.proofs.CutLemmas.{record_behind, records-both}

-- ---- lists

flat_map-same : {X Y : Type 0} (f g : X → List Y) → ((x : X) → f x ≡ g x) → (xs : List X) → flat_map f xs ≡ flat_map g xs
flat_map-same f g e [] = refl
flat_map-same f g e (x ∷ xs) = ap (λ l. l ++ flat_map f xs) (e x) ∙ ap (λ l. g x ++ l) (flat_map-same f g e xs)

flat_map-among : {X Y : Type 0} (P : X → Type 0) (f g : X → List Y) → ((x : X) → P x → f x ≡ g x) → (xs : List X) → AllByRecursion P xs → flat_map f xs ≡ flat_map g xs
flat_map-among P f g e [] all = refl
flat_map-among P f g e (x ∷ xs) all = ap (λ l. l ++ flat_map f xs) (e x all.0) ∙ ap (λ l. g x ++ l) (flat_map-among P f g e xs all.1)

flat_map-of-map : {X Y Z : Type 0} (f : Y → List Z) (g : X → Y) (xs : List X) → flat_map f (map g xs) ≡ flat_map (λ x. f (g x)) xs
flat_map-of-map f g [] = refl
flat_map-of-map f g (x ∷ xs) = ap (λ l. f (g x) ++ l) (flat_map-of-map f g xs)

flat_map-twice : {X Y Z : Type 0} (f : Y → List Z) (g : X → List Y) (xs : List X) → flat_map f (flat_map g xs) ≡ flat_map (λ x. flat_map f (g x)) xs
flat_map-twice f g [] = refl
flat_map-twice f g (x ∷ xs) = flat_map-append f (g x) (flat_map g xs) ∙ ap (λ l. flat_map f (g x) ++ l) (flat_map-twice f g xs)

-- ---- where a record stands changes its values alone

abbrev keys_in : List Emission → List (List ℕ)
keys_in es = map (λ (e : Emission). e.0) es

keys_with : (v : Value) (ks : List (List ℕ)) → keys_in (map (λ k. (k, v)) ks) ≡ ks
keys_with v [] = refl
keys_with v (k ∷ ks) = ap (λ l. k ∷ l) (keys_with v ks)

keys_anywhere : (job : JobSpec) (file start : ℕ) (line : List ℕ) → keys_in (emissions job file start line) ≡ keys_in (emissions job 0 0 line)
keys_anywhere job file start line = keys_with (value_at job file start) (keys_of job line) ∙ sym (keys_with (value_at job 0 0) (keys_of job line))

-- how many of these keys are the key
abbrev key_count : List ℕ → List (List ℕ) → ℕ
key_count key ks = length (filter (λ k. bytes_eq k key) ks)

count_keys : (key : List ℕ) (es : List Emission) → length (pairs_with key es) ≡ key_count key (keys_in es)
count_keys key [] = refl
count_keys key (e ∷ es) = by (bytes_eq e.0 key) (count_keys key es)
  where
    by : (t : Bool) → length (pairs_with key es) ≡ key_count key (keys_in es)
        → length (cond t (e ∷ pairs_with key es) (pairs_with key es)) ≡ length (cond t (e.0 ∷ filter (λ k. bytes_eq k key) (keys_in es)) (filter (λ k. bytes_eq k key) (keys_in es)))
    by true later = ap suc later
    by false later = later

same_count : (key : List ℕ) (es fs : List Emission) → keys_in es ≡ keys_in fs → length (pairs_with key es) ≡ length (pairs_with key fs)
same_count key es fs e = count_keys key es ∙ ap (key_count key) e ∙ sym (count_keys key fs)

same_wanted : (wanted : Wanted) (es fs : List Emission) → keys_in es ≡ keys_in fs → is_wanted wanted es ≡ is_wanted wanted fs
same_wanted (Key key) es fs e = ap (ltb 0) (same_count key.now es fs e)
same_wanted Nothing es fs e = ap (λ n. eqb n 0) (sym (length-map es (λ (x : Emission). x.0)) ∙ ap length e ∙ length-map fs (λ (x : Emission). x.0))

same_values : (wanted : Wanted) (es fs : List Emission) → keys_in es ≡ keys_in fs → value_count wanted es ≡ value_count wanted fs
same_values (Key key) es fs e = same_count key.now es fs e
same_values Nothing es fs e = refl

-- ---- what is found in files

-- what is printed of a record, and how many values it has
abbrev Found : Type 0
Found = List ℕ × ℕ

abbrev source_at : Heading → SourceFile
source_at h = record { name = record { ref_ptr = (0, 0); now = h.0 }; lines_before = h.1; bytes_before = h.2 }

-- more lines and bytes come before
abbrev heading_behind : Heading → List ℕ → Heading
heading_behind h more = (h.0, h.1 + feeds_in more, h.2 + length more)

abbrev text_of_record : Heading → List ℕ → Record → List ℕ
text_of_record h file r = head_of (source_at h) (feeds_before file r.start) r.start ++ r.bytes ++ 10 ∷ []

text-first : (h : Heading) (a b : List ℕ) (r : Record) → r.start < length a → text_of_record h (a ++ b) r ≡ text_of_record h a r
text-first h a b r inside =
    ap (λ (l : List ℕ). head_of (source_at h) (feeds_in l) r.start ++ r.bytes ++ 10 ∷ []) (take-append-le r.start a b (omega arith))

text-second : (h : Heading) (a b : List ℕ) (r : Record) → text_of_record h (a ++ b) (record_behind (length a) r) ≡ text_of_record (heading_behind h a) b r
text-second h a b r =
    let feeds : feeds_before (a ++ b) (length a + r.start) ≡ feeds_in a + feeds_before b r.start =
    ap feeds_in (take-append-add a b r.start) ∙ count_by-append (λ (x : ℕ). x == 0x0A) a (take r.start b) in
    let lines : h.1 + feeds_before (a ++ b) (length a + r.start) + 1 ≡ h.1 + feeds_in a + feeds_before b r.start + 1 = omega (arith, feeds) in
    let place : h.2 + (length a + r.start) ≡ h.2 + length a + r.start = omega arith in
    ap (λ n. (h.0 ++ 58 ∷ decimal n ++ 58 ∷ decimal (h.2 + (length a + r.start)) ++ 58 ∷ []) ++ r.bytes ++ 10 ∷ []) lines
    ∙ ap (λ n. (h.0 ++ 58 ∷ decimal (h.1 + feeds_in a + feeds_before b r.start + 1) ++ 58 ∷ decimal n ++ 58 ∷ []) ++ r.bytes ++ 10 ∷ []) place

module _ (job : JobSpec) (wanted : Wanted) where
  -- nothing, or this text with the number of the line's values
  abbrev found_with : List ℕ → List ℕ → List Found
  found_with text line = cond (is_wanted wanted (emissions job 0 0 line)) ((text, value_count wanted (emissions job 0 0 line)) ∷ []) []

  abbrev found : Heading → List ℕ → Record → List Found
  found h file r = found_with (text_of_record h file r) r.bytes

  abbrev found_in : Heading × List ℕ → List Found
  found_in f = flat_map (found f.0 f.1) (records f.1)

  -- a file in two pieces
  found-both : (h : Heading) (a b : List ℕ) → EndsLine a → found_in (h, a ++ b) ≡ found_in (h, a) ++ found_in (heading_behind h a, b)
  found-both h a b ends =
      let Inside : Record → Type 0 = λ r. BeginsALine a r.start × (r.start < length a) in
      ap (flat_map (found h (a ++ b))) (records-both a b ends)
      ∙ flat_map-append (found h (a ++ b)) (records a) (map (record_behind (length a)) (records b))
      ∙ ap (λ l. l ++ flat_map (found h (a ++ b)) (map (record_behind (length a)) (records b)))
      (flat_map-among Inside (found h (a ++ b)) (found h a)
      (λ r inside. ap (λ (t : List ℕ). found_with t r.bytes) (text-first h a b r inside.1))
      (records a) (recursion_from_All Inside (records a) (start_where_lines_begin a)))
      ∙ ap (λ l. found_in (h, a) ++ l)
      (flat_map-of-map (found h (a ++ b)) (record_behind (length a)) (records b)
      ∙ flat_map-same (λ r. found h (a ++ b) (record_behind (length a) r)) (found (heading_behind h a) b)
      (λ r. ap (λ (t : List ℕ). found_with t r.bytes) (text-second h a b r)) (records b))

  found-nil : (h : Heading) → found_in (h, []) ≡ []
  found-nil h = ap (flat_map (found h [])) (nil_case 0)

  found-cut : (h : Heading) (a b : List ℕ) → EndsLine a ⊎ (b ≡ []) → found_in (h, a ++ b) ≡ found_in (h, a) ++ found_in (heading_behind h a, b)
  found-cut h a b (inl ends) = found-both h a b ends
  found-cut h a b (inr none) =
      ap (λ (l : List ℕ). found_in (h, a ++ l)) none ∙ ap (λ (l : List ℕ). found_in (h, l)) (append-nil a)
      ∙ sym (ap (λ (l : List ℕ). found_in (h, a) ++ found_in (heading_behind h a, l)) none
      ∙ ap (λ l. found_in (h, a) ++ l) (found-nil (heading_behind h a)) ∙ append-nil (found_in (h, a)))

  -- where no record is wanted
  found-none : (h : Heading) (file : List ℕ) (rs : List Record) → AllByRecursion (λ r. IsUnwanted job wanted r.bytes) rs → flat_map (found h file) rs ≡ []
  found-none h file [] all = refl
  found-none h file (r ∷ rs) all =
      ap (λ t. cond t ((text_of_record h file r, value_count wanted (emissions job 0 0 r.bytes)) ∷ []) [] ++ flat_map (found h file) rs) (all.0 0 0)
      ∙ found-none h file rs all.1

  no_more : (b : List ℕ) (ps : List Piece) → EndsLine b ⊎ (ps ≡ []) → EndsLine b ⊎ (joined ps ≡ [])
  no_more b ps (inl ends) = inl ends
  no_more b ps (inr none) = inr (ap joined none)

  found-pieces : (name : List ℕ) (lines bytes : ℕ) (ps : List Piece) → AreCutAtLines ps → AllByRecursion (DropsOnly (IsUnwanted job wanted)) ps
      → flat_map (λ k. found_in (as_file name k)) (kept_from lines bytes ps) ≡ found_in ((name, lines, bytes), joined ps)
  found-pieces name lines bytes [] cut dropped = sym (found-nil (name, lines, bytes))
  found-pieces name lines bytes (Kept b ∷ ps) cut dropped =
      let h : Heading = (name, lines, bytes) in
      ap (λ l. found_in (h, b) ++ l) (found-pieces name (lines + feeds_in b) (bytes + length b) ps cut.1 dropped.1)
      ∙ sym (found-cut h b (joined ps) (no_more b ps cut.0))
  found-pieces name lines bytes (Dropped b ∷ ps) cut dropped =
      let h : Heading = (name, lines, bytes) in
      found-pieces name (lines + feeds_in b) (bytes + length b) ps cut.1 dropped.1
      ∙ ap (λ l. l ++ found_in (heading_behind h b, joined ps)) (sym (found-none h b (records b) dropped.0))
      ∙ sym (found-cut h b (joined ps) (no_more b ps cut.0))

  found-sifted : (f : SiftedFile) → IsSifting (IsUnwanted job wanted) f.file f.kept → flat_map found_in (kept_files f) ≡ found_in (whole_file f)
  found-sifted f s =
      flat_map-of-map found_in (as_file f.name) f.kept
      ∙ ap (flat_map (λ k. found_in (as_file f.name k))) s.kept_is
      ∙ found-pieces f.name 0 0 s.pieces s.cut s.dropped
      ∙ ap (λ (l : List ℕ). found_in ((f.name, 0, 0), l)) s.file_is

  -- in all files
  found-all : (fs : List SiftedFile) → AllByRecursion (λ f. IsSifting (IsUnwanted job wanted) f.file f.kept) fs
      → flat_map found_in (flat_map kept_files fs) ≡ flat_map found_in (map whole_file fs)
  found-all [] all = refl
  found-all (f ∷ fs) all =
      flat_map-append found_in (kept_files f) (flat_map kept_files fs)
      ∙ ap (λ l. l ++ flat_map found_in (flat_map kept_files fs)) (found-sifted f all.0)
      ∙ ap (λ l. found_in (whole_file f) ++ l) (found-all fs all.1)

  -- ---- among the records of a plan

  abbrev found_named : List SourceFile → List (List ℕ) → NamedRecord → List Found
  found_named sources files r =
      cond (is_wanted wanted (pairs_of job r)) ((line_at sources files r.file r.start r.bytes, value_count wanted (pairs_of job r)) ∷ []) []

  abbrev heading_at : List SourceFile → ℕ → Heading
  heading_at sources file = heading_of (nth_source sources file)

  found-named : (sources : List SourceFile) (files : List (List ℕ)) (r : NamedRecord)
      → found_named sources files r ≡ found (heading_at sources r.file) (nth_file files r.file) (record { start = r.start; bytes = r.bytes })
  found-named sources files r =
      let text : List ℕ = line_at sources files r.file r.start r.bytes in
      let keys : keys_in (pairs_of job r) ≡ keys_in (emissions job 0 0 r.bytes) = keys_anywhere job r.file r.start r.bytes in
      ap (λ t. cond t ((text, value_count wanted (pairs_of job r)) ∷ []) []) (same_wanted wanted (pairs_of job r) (emissions job 0 0 r.bytes) keys)
      ∙ ap (λ n. cond (is_wanted wanted (emissions job 0 0 r.bytes)) ((text, n) ∷ []) []) (same_values wanted (pairs_of job r) (emissions job 0 0 r.bytes) keys)

  named-one : (sources : List SourceFile) (files : List (List ℕ)) (size file first split next : ℕ) (rs : List Record)
      → flat_map (found_named sources files) (named_from size file first split next rs) ≡ flat_map (found (heading_at sources file) (nth_file files file)) rs
  unfolding named_from
  named-one sources files size file first split next [] = refl
  named-one sources files size file first split next (r ∷ rs) =
      let here : ℕ = first + r.start / size in
      let number : ℕ = cond (eqb here split) next 0 in
      let named : NamedRecord = record { name = record { split = here; rec = number }; file = file; start = r.start; bytes = r.bytes } in
      ap (λ l. l ++ flat_map (found_named sources files) (named_from size file first here (number + 1) rs)) (found-named sources files named)
      ∙ ap (λ l. found (heading_at sources file) (nth_file files file) r ++ l) (named-one sources files size file first here (number + 1) rs)

  named-all : (sources : List SourceFile) (files : List (List ℕ)) (size k first : ℕ) (fs : List (Heading × List ℕ))
      → ((i : ℕ) → nth_file files (k + i) ≡ nth_file (map (λ f. f.1) fs) i)
      → ((i : ℕ) → heading_at sources (k + i) ≡ get_or (map (λ f. f.0) fs) i ([], 0, 0))
      → flat_map (found_named sources files) (named_files size k first (map (λ f. f.1) fs)) ≡ flat_map found_in fs
  unfolding named_files
  named-all sources files size k first [] same printed = refl
  named-all sources files size k first (f ∷ fs) same printed =
      let here : k ≡ k + 0 = omega arith in
      let next : ℕ = first + split_count size f.1 in
      let later : List NamedRecord = named_files size (k + 1) next (map (λ f. f.1) fs) in
      flat_map-append (found_named sources files) (named_from size k first first 0 (records f.1)) later
      ∙ ap (λ l. l ++ flat_map (found_named sources files) later)
      (named-one sources files size k first first 0 (records f.1)
      ∙ ap (λ h. flat_map (found h (nth_file files k)) (records f.1)) (ap (heading_at sources) here ∙ printed 0)
      ∙ ap (λ (l : List ℕ). flat_map (found f.0 l) (records f.1)) (ap (nth_file files) here ∙ same 0))
      ∙ ap (λ l. found_in f ++ l)
      (named-all sources files size (k + 1) next fs
      (λ i. ap (nth_file files) (let e : k + 1 + i ≡ k + suc i = omega arith in e) ∙ same (suc i))
      (λ i. ap (heading_at sources) (let e : k + 1 + i ≡ k + suc i = omega arith in e) ∙ printed (suc i)))

  -- ---- what is printed and counted of them

  abbrev told_of : List SourceFile → List (List ℕ) → NamedRecord → Found
  told_of sources files r = (line_at sources files r.file r.start r.bytes, value_count wanted (pairs_of job r))

  found-evidence : (sources : List SourceFile) (files : List (List ℕ)) (rs : List NamedRecord)
      → flat_map (found_named sources files) rs ≡ map (told_of sources files) (evidence job wanted rs)
  found-evidence sources files [] = refl
  found-evidence sources files (r ∷ rs) = by (is_wanted wanted (pairs_of job r)) (found-evidence sources files rs)
    where
      by : (t : Bool) → flat_map (found_named sources files) rs ≡ map (told_of sources files) (evidence job wanted rs)
          → cond t (told_of sources files r ∷ []) [] ++ flat_map (found_named sources files) rs
          ≡ map (told_of sources files) (cond t (r ∷ evidence job wanted rs) (evidence job wanted rs))
      by true later = ap (λ l. told_of sources files r ∷ l) later
      by false later = later

  no_values : (w : Wanted) (es : List Emission) → is_wanted w es ≡ false → value_count w es ≡ 0
  no_values (Key key) es none =
      elim (cases_lt 0 (length (pairs_with key.now es))) [
        | inl some ↦ absurd (false≢true (sym none ∙ lt-ltb 0 (length (pairs_with key.now es)) some))
        | inr zero_or_less ↦ omega (arith, zero_or_less)
      ]
  no_values Nothing es none = refl

  found-values : (sources : List SourceFile) (files : List (List ℕ)) (rs : List NamedRecord)
      → sum_by (λ (x : Found). x.1) (flat_map (found_named sources files) rs) ≡ pair_total job wanted rs
  found-values sources files [] = refl
  found-values sources files (r ∷ rs) =
      let value : NamedRecord → ℕ = λ x. value_count wanted (pairs_of job x) in
      let later : List Found = flat_map (found_named sources files) rs in
      sum_by-append (λ (x : Found). x.1) (found_named sources files r) later
      ∙ ap (λ n. n + sum_by (λ (x : Found). x.1) later) (by (is_wanted wanted (pairs_of job r)) refl)
      ∙ ap (λ n. value_count wanted (pairs_of job r) + n) (found-values sources files rs)
      ∙ sym (sum_by-cons value r rs)
    where
      by : (t : Bool) → is_wanted wanted (pairs_of job r) ≡ t → sum_by (λ (x : Found). x.1) (cond t (told_of sources files r ∷ []) []) ≡ value_count wanted (pairs_of job r)
      by true is = omega arith
      by false is = sym (no_values wanted (pairs_of job r) is)

-- ---- a query

kept-all : (rs : List NamedRecord) → kept_records [] rs ≡ rs
kept-all [] = refl
kept-all (r ∷ rs) = ap (λ l. r ∷ l) (kept-all rs)

abbrev all_found : Query → List (Heading × List ℕ) → List Found
all_found q fs = flat_map (found_in q.job.now q.wanted) fs

abbrev plan_found : Query → List Found
plan_found q = flat_map (found_named q.job.now q.wanted q.sources.now q.plan.now.files) (records_of q.plan.now)

heading-nth : (sources : List SourceFile) (i : ℕ) → heading_of (nth_source sources i) ≡ get_or (map heading_of sources) i ([], 0, 0)
heading-nth [] i = refl
heading-nth (s ∷ ss) zero = refl
heading-nth (s ∷ ss) (suc i) = heading-nth ss i

-- the text of left-out records, as a function of their names
abbrev text_without : Query → List RecordName → List ℕ
text_without q skips =
    let out : List NamedRecord = filter_map (record_named (records_of q.plan.now)) skips in
    cond (eqb (length (evidence q.job.now q.wanted out)) 0) [] (listing q (codes "left out:") out ++ summary_of q.job.now q.wanted (codes "left out") out)

module _ (q : Query) (fs : List (Heading × List ℕ)) (over : IsQueryOver fs q) where
  kept-is : kept_of q ≡ records_of q.plan.now
  kept-is = ap (λ skips. kept_records skips (records_of q.plan.now)) over.none_left_out ∙ kept-all (records_of q.plan.now)

  found-is : plan_found q ≡ all_found q fs
  found-is =
      ap (λ files. flat_map (found_named q.job.now q.wanted q.sources.now q.plan.now.files) (named_files q.plan.now.size 0 0 files)) over.files_are
      ∙ named-all q.job.now q.wanted q.sources.now q.plan.now.files q.plan.now.size 0 0 fs
      (λ i. ap (λ n. nth_file q.plan.now.files n) (let e : 0 + i ≡ i = omega arith in e) ∙ ap (λ files. nth_file files i) over.files_are)
      (λ i. ap (λ n. heading_of (nth_source q.sources.now n)) (let e : 0 + i ≡ i = omega arith in e) ∙ heading-nth q.sources.now i
      ∙ ap (λ hs. get_or hs i ([], 0, 0)) over.printed_as)

  evidence-is : map (told_of q.job.now q.wanted q.sources.now q.plan.now.files) (evidence q.job.now q.wanted (kept_of q)) ≡ all_found q fs
  evidence-is =
      ap (λ rs. map (told_of q.job.now q.wanted q.sources.now q.plan.now.files) (evidence q.job.now q.wanted rs)) kept-is
      ∙ sym (found-evidence q.job.now q.wanted q.sources.now q.plan.now.files (records_of q.plan.now)) ∙ found-is

  records-are : length (evidence q.job.now q.wanted (kept_of q)) ≡ length (all_found q fs)
  records-are =
      sym (length-map (evidence q.job.now q.wanted (kept_of q)) (told_of q.job.now q.wanted q.sources.now q.plan.now.files)) ∙ ap length evidence-is

  pairs-are : pair_total q.job.now q.wanted (kept_of q) ≡ sum_by (λ (x : Found). x.1) (all_found q fs)
  pairs-are =
      ap (pair_total q.job.now q.wanted) kept-is
      ∙ sym (found-values q.job.now q.wanted q.sources.now q.plan.now.files (records_of q.plan.now))
      ∙ ap (sum_by (λ (x : Found). x.1)) found-is

  listing-is : listing q [] (kept_of q) ≡ flat_map (λ (x : Found). x.0) (take q.limit (all_found q fs))
  listing-is =
      let told : NamedRecord → Found = told_of q.job.now q.wanted q.sources.now q.plan.now.files in
      let es : List NamedRecord = evidence q.job.now q.wanted (kept_of q) in
      sym (flat_map-of-map (λ (x : Found). x.0) told (take q.limit es))
      ∙ ap (flat_map (λ (x : Found). x.0)) (sym (take-map told q.limit es) ∙ ap (take q.limit) evidence-is)

  no-left-out : left_out_text q ≡ []
  no-left-out = ap (text_without q) over.none_left_out

abbrev explained : List ℕ → ℕ → List Found → List ℕ
explained label limit fs = flat_map (λ (x : Found). x.0) (take limit fs) ++ summary_line label (sum_by (λ (x : Found). x.1) fs) (length fs) ++ []

explanation-is : (q : Query) (fs : List (Heading × List ℕ)) → IsQueryOver fs q → explanation q ≡ explained (label_of q.wanted) q.limit (all_found q fs)
explanation-is q fs over =
    ap (λ l. l ++ summary_line (label_of q.wanted) (pair_total q.job.now q.wanted (kept_of q)) (length (evidence q.job.now q.wanted (kept_of q))) ++ left_out_text q) (listing-is q fs over)
    ∙ ap (λ n. text ++ summary_line (label_of q.wanted) n (length (evidence q.job.now q.wanted (kept_of q))) ++ left_out_text q) (pairs-are q fs over)
    ∙ ap (λ n. text ++ summary_line (label_of q.wanted) pairs n ++ left_out_text q) (records-are q fs over)
    ∙ ap (λ l. text ++ summary_line (label_of q.wanted) pairs (length (all_found q fs)) ++ l) (no-left-out q fs over)
  where
    text : List ℕ
    text = flat_map (λ (x : Found). x.0) (take q.limit (all_found q fs))

    pairs : ℕ
    pairs = sum_by (λ (x : Found). x.1) (all_found q fs)

pub sifting-is-exact : SiftingIsExact
sifting-is-exact files whole kept siftings over_whole over_kept same =
    let kept_found : List Found = all_found kept (flat_map kept_files files) in
    let whole_found : List Found = all_found whole (map whole_file files) in
    let one : kept_found ≡ whole_found =
    ap (λ (job : JobSpec). flat_map (found_in job kept.wanted) (flat_map kept_files files)) same.job
    ∙ ap (λ (wanted : Wanted). flat_map (found_in whole.job.now wanted) (flat_map kept_files files)) same.wanted
    ∙ found-all whole.job.now whole.wanted files siftings in (
      explanation-is kept (flat_map kept_files files) over_kept
          ∙ ap (λ (w : Wanted). explained (label_of w) kept.limit kept_found) same.wanted
          ∙ ap (λ n. explained (label_of whole.wanted) n kept_found) same.limit
          ∙ ap (explained (label_of whole.wanted) whole.limit) one
          ∙ sym (explanation-is whole (map whole_file files) over_whole),
      λ totals are. record {
        pairs = are.pairs ∙ pairs-are kept (flat_map kept_files files) over_kept ∙ ap (sum_by (λ (x : Found). x.1)) one
            ∙ sym (pairs-are whole (map whole_file files) over_whole);
        records = are.records ∙ records-are kept (flat_map kept_files files) over_kept ∙ ap length one
            ∙ sym (records-are whole (map whole_file files) over_whole);
      },
    )

-- ---- how long it is

kept-size : (lines bytes : ℕ) (ps : List Piece) → total_size (map (λ k. k.bytes) (kept_from lines bytes ps)) ≤ length (joined ps)
kept-size lines bytes [] = omega arith
kept-size lines bytes (Kept b ∷ ps) =
    let later : List KeptLines = kept_from (lines + feeds_in b) (bytes + length b) ps in
    omega (arith, sum_by-cons length b (map (λ (k : KeptLines). k.bytes) later), kept-size (lines + feeds_in b) (bytes + length b) ps, length-append b (joined ps))
kept-size lines bytes (Dropped b ∷ ps) =
    omega (arith, kept-size (lines + feeds_in b) (bytes + length b) ps, length-append b (joined ps))

pub sifting-is-no-longer : SiftingIsNoLonger
sifting-is-no-longer job wanted file kept s =
    let size : total_size (map (λ k. k.bytes) kept) ≡ total_size (map (λ k. k.bytes) (kept_from 0 0 s.pieces)) =
    ap (λ (ks : List KeptLines). total_size (map (λ k. k.bytes) ks)) s.kept_is in
    omega (arith, size, kept-size 0 0 s.pieces, ap length s.file_is)
