-- What is read and kept of files, one file more; and what a query over what is kept prints.
use Rattle.std.proofs.Common.{◌≡◌, ℕ, zero, suc, ◌+◌, ◌-◌, ◌*◌, ◌/◌, ◌≤◌, ◌<◌, ◌^◌, Bool, true, false, cond, Option, None, List, [], ◌∷◌, ◌++◌, length, map, take, get_or, inl, refl, sym, ap, ◌∙◌, subst, arith, option_map, length-append}
use Rattle.std.proofs.Math.Nat.{suc-mul}
use Rattle.std.proofs.Math.Seq.{take-suc}
use Rattle.std.proofs.lemmas.List.{append-nil, length-map, map-append, take_all}
use Rattle.std.proofs.lemmas.List.Concat.{flat_map-append}
use Rattle.std.proofs.lemmas.List.Sums.{sum_by-append, sum_by-cons}
use Rattle.std.specs.Prelude.{Vec, ◌==◌}
use Rattle.std.specs.Global.{Global}
use Rattle.std.specs.List.{AllByRecursion, flat_map}
use Rattle.mr_input.specs.Files.{contents, split_count, split_total, total_size}
use Rattle.mr_input.specs.declared.InputFault.{InputFault}
use Rattle.mr_input.specs.declared.InputFault.TheVariants.{TooManyFiles, TooLarge}
use Rattle.mr_input.proofs.SplitLemmas.{split_total-end}
use Rattle.mr_jobs.specs.JobSpec.{JobSpec, RequestSpec}
use Rattle.mr_store.specs.Devices.{Seen, flushed, with_bytes}
use Rattle.mr_sequential.specs.Skips.{skip_fault}
use Rattle.mr_sequential.proofs.SkipLaws.{good_skips}
use Rattle.mr_shards.proofs.StepLemmas.{all-map}
use Rattle.mr_files.specs.Holding.{Faulty, Stored}
use Rattle.mr_files.specs.Ranges.{IsRangeOf, IsRangeRefusal}
use Rattle.mr_files.specs.Stretches.{AreTaken, AreTakenFrom, IsUntaken, Stretch, begin_in, end_in}
use Rattle.mr_files.specs.declared.ranges.RangeFault.{RangeFault}
use Rattle.mr_files.proofs.Passed.{sizes_more}
use Rattle.std.specs.List.{filter_map}
use Rattle.mr_bytes.specs.declared.RecordName.{RecordName}
use Rattle.mr_splits.specs.Cut.{Cut, record_named, records_of}
use Rattle.mr_explain.specs.Explained.{IsUnwanted, explanation, kept_of}
use Rattle.mr_explain.specs.Walking.{AreCounts}
use Rattle.mr_explain.specs.declared.query.Totals.{Totals}
use Rattle.mr_explain.specs.Sifting.{Heading, IsSifting, KeptLines, SiftedFile, as_file, heading_of, kept_files, kept_lines, whole_file}
use Rattle.mr_explain.specs.declared.query.Query.{Query}
use Rattle.mr_explain.specs.declared.query.SourceFile.{SourceFile}
use Rattle.mr_explain.specs.declared.query.Wanted.{Wanted}
use Rattle.mr_explain.specs.declared.query.Wanted.TheVariants.{Key, Nothing}
use Rattle.mr_explain.specs.declared.sifting.Sifted.{Sifted}
use Rattle.mr_explain.proofs.SiftingLaws.{sifting-is-exact, sifting-is-no-longer}
use Rattle.mr_args.specs.declared.fault.Fault.TheVariants.{Input}
use Rattle.mr_args.specs.declared.request.ExplainOptions.{ExplainOptions}
use Rattle.mr_args.specs.declared.request.Options.{Options}
use Rattle.mr_args.specs.Asked.{request_asked}
use Rattle.mr_commands.specs.Explains.{AnswersExplain, Compares, IsComparedPart, IsQueryOf, IsSought, source_told, sources_from}
use Rattle.mr_commands.specs.Facts.{AreExplainFacts, IsCounted}
use Rattle.mr_commands.specs.Inputs.{AreRead, IsUnreadInput}
use Rattle.mr_commands.specs.Named.{input_names, stretch_of}
use Rattle.mr_commands.specs.Sifted.{AsksAlone, HasSifted, IsSiftedFile, IsSiftedRun, StandsSifted, TakesAll, keeps, names_of, whole_stretch, wholes}
use Rattle.mr_commands.specs.declared.counts.Facts.{Facts}
use Rattle.mr_commands.specs.declared.counts.Facts.TheVariants as told
use Rattle.mr_commands.specs.declared.sifted.SiftedFiles.{SiftedFiles}
use Rattle.mr_commands.specs.declared.sifted.SiftedRun.{SiftedRun}

-- ---- lists and numbers

all_more : {X : Type 0} (P : X → Type 0) (xs : List X) (x : X) → AllByRecursion P xs → P x → AllByRecursion P (xs ++ x ∷ [])
all_more P [] x all p = (p, tt)
all_more P (y ∷ xs) x all p = (all.0, all_more P xs x all.1 p)

splits_more : (size : ℕ) (files : List (List ℕ)) (f : List ℕ) → split_total size (files ++ f ∷ []) ≡ split_total size files + split_count size f
unfolding split_total
splits_more size [] f = omega arith
splits_more size (g ∷ files) f = omega (arith, splits_more size files f)

-- ---- one file

-- a whole file is the range from its first byte to its end
pub whole_range : (file : List ℕ) → IsRangeOf file 0 None file true
whole_range file = record {
  order = omega arith;
  within = omega arith;
  bytes_are = sym (take_all (length file - 0) file (omega arith));
  ends_where = ((λ _. refl), (λ _. refl));
  begins = inl refl;
  closes = λ e. absurd (cc e);
}

-- ---- files one behind another

module _ (holds : Stored) (so : List ℕ → Type 0) (size most : ℕ) where
  pub none_sifted : (s : SiftedFiles) → s.sources.items ≡ [] → s.excerpts.items ≡ [] → s.lengths.items ≡ [] → s.left ≡ 2 ^ 30 → s.splits ≡ 0 → HasSifted holds so size most [] s
  none_sifted s sources excerpts lengths left splits = record {
    files = [];
    names_are = refl;
    stand = tt;
    sources = ap (map heading_of) sources;
    excerpts = ap contents excerpts;
    lengths = lengths;
    left = omega (arith, left);
    splits = splits ∙ sym (split_total-end size [] 0 (omega arith));
  }

  -- one file more
  one_more : (names all : List (List ℕ)) (name : List ℕ) (old new : SiftedFiles) (s : Sifted)
      → all ≡ names ++ name ∷ [] → HasSifted holds so size most names old → IsSiftedFile holds name so old.left most s
      → map heading_of new.sources.items ≡ map heading_of old.sources.items ++ map (λ f. f.0) (map (as_file name) (map kept_lines s.excerpts.items))
      → contents new.excerpts.items ≡ contents old.excerpts.items ++ map (λ f. f.1) (map (as_file name) (map kept_lines s.excerpts.items))
      → new.lengths.items ≡ old.lengths.items ++ s.length ∷ []
      → new.left + s.length ≡ old.left → new.splits ≡ old.splits + (s.length + size - 1) / size → HasSifted holds so size most all new
  one_more names all name old new s is h f sources excerpts lengths left splits =
      let x : SiftedFile = record { name = name; file = f.file; kept = map kept_lines s.excerpts.items } in
      let head : Heading × List ℕ → Heading = λ p. p.0 in
      let text : Heading × List ℕ → List ℕ = λ p. p.1 in
      let files : List SiftedFile = h.files ++ x ∷ [] in
      let whole : wholes files ≡ wholes h.files ++ f.file ∷ [] = map-append (λ (f : SiftedFile). f.file) h.files (x ∷ []) in
      let kept : flat_map kept_files files ≡ flat_map kept_files h.files ++ kept_files x =
      flat_map-append kept_files h.files (x ∷ []) ∙ ap (λ (l : List (Heading × List ℕ)). flat_map kept_files h.files ++ l) (append-nil (kept_files x)) in
      record {
        files = files;
        names_are = map-append (λ (f : SiftedFile). f.name) h.files (x ∷ []) ∙ ap (λ (l : List (List ℕ)). l ++ name ∷ []) h.names_are ∙ sym is;
        stand = all_more (StandsSifted holds so most) h.files x h.stand (record {
          held = f.held;
          sifting = f.sifting;
          few = omega (arith, f.few, length-map s.excerpts.items kept_lines);
        });
        sources = sources ∙ ap (λ (l : List Heading). l ++ map head (kept_files x)) h.sources ∙ sym (map-append head (flat_map kept_files h.files) (kept_files x)) ∙ sym (ap (map head) kept);
        excerpts = excerpts ∙ ap (λ (l : List (List ℕ)). l ++ map text (kept_files x)) h.excerpts ∙ sym (map-append text (flat_map kept_files h.files) (kept_files x)) ∙ sym (ap (map text) kept);
        lengths = lengths ∙ (λ i. h.lengths i ++ f.length_is i ∷ []) ∙ sym (map-append (length {A = ℕ}) (wholes h.files) (f.file ∷ [])) ∙ sym (ap (map (length {A = ℕ})) whole);
        left = omega (arith, h.left, left, f.length_is, ap total_size whole, sizes_more (wholes h.files) f.file);
        splits = splits ∙ ap (λ (n : ℕ). n + (s.length + size - 1) / size) h.splits ∙ ap (λ (n : ℕ). split_total size (wholes h.files) + (n + size - 1) / size) f.length_is
            ∙ sym (splits_more size (wholes h.files) f.file) ∙ sym (ap (split_total size) whole);
      }

  -- the next name
  pub next_sifted : (names : List (List ℕ)) (i : ℕ) (name : List ℕ) (old new : SiftedFiles) (s : Sifted)
      → i < length names → name ≡ get_or names i [] → HasSifted holds so size most (take i names) old → IsSiftedFile holds name so old.left most s
      → map heading_of new.sources.items ≡ map heading_of old.sources.items ++ map (λ f. f.0) (map (as_file name) (map kept_lines s.excerpts.items))
      → contents new.excerpts.items ≡ contents old.excerpts.items ++ map (λ f. f.1) (map (as_file name) (map kept_lines s.excerpts.items))
      → new.lengths.items ≡ old.lengths.items ++ s.length ∷ []
      → new.left + s.length ≡ old.left → new.splits ≡ old.splits + (s.length + size - 1) / size → HasSifted holds so size most (take (i + 1) names) new
  next_sifted names i name old new s less is h f sources excerpts lengths left splits =
      let next : take (i + 1) names ≡ take i names ++ name ∷ [] =
      ap (λ k. take k names) (let e : i + 1 ≡ suc i = omega arith in e) ∙ take-suc names i [] less ∙ ap (λ (n : List ℕ). take i names ++ n ∷ []) (sym is) in
      one_more (take i names) (take (i + 1) names) name old new s next h f sources excerpts lengths left splits

  taken_all : (fs : List SiftedFile) → AllByRecursion (StandsSifted holds so most) fs → AreTakenFrom holds (names_of fs) 0 None (wholes fs) true
  taken_all [] h = refl
  taken_all (f ∷ []) h = (f.file, h.0.held, whole_range f.file)
  taken_all (f ∷ g ∷ fs) h = ((f.file, h.0.held, whole_range f.file), taken_all (g ∷ fs) h.1)

  taken_under : (names : List (List ℕ)) (fs : List SiftedFile) → names_of fs ≡ names → AllByRecursion (StandsSifted holds so most) fs → AreTakenFrom holds names 0 None (wholes fs) true
  taken_under names fs is h = subst (λ (ns : List (List ℕ)). AreTakenFrom holds ns 0 None (wholes fs) true) is (taken_all fs h)

  -- files that stand under the names of options are taken as a whole
  taken_of : (o : Options) (fs : List SiftedFile) → TakesAll o → names_of fs ≡ input_names o → AllByRecursion (StandsSifted holds so most) fs → AreTaken holds (stretch_of o) (wholes fs) true
  taken_of o fs a is h =
      subst (λ (from : ℕ). AreTakenFrom holds (input_names o) from o.to (wholes fs) true) (sym a.from)
      (subst (λ (to : Option ℕ). AreTakenFrom holds (input_names o) 0 to (wholes fs) true) (sym a.to) (taken_under (input_names o) fs is h))

  begins_whole : (names : List (List ℕ)) (i : ℕ) → begin_in (whole_stretch names) i ≡ 0
  begins_whole names zero = refl
  begins_whole names (suc i) = refl

  ends_whole : (names : List (List ℕ)) (i : ℕ) → end_in (whole_stretch names) i ≡ None
  ends_whole names i = by (i + 1 == length names)
    where
      by : (b : Bool) → ◌≡◌ {A = Option ℕ} (cond b None None) None
      by true = refl
      by false = refl

  -- a file is refused behind those that were sifted
  pub unsifted : (unreadable : Faulty) (names : List (List ℕ)) (i : ℕ) (name : List ℕ) (s : SiftedFiles) (fault : RangeFault)
      → i < length names → name ≡ get_or names i [] → HasSifted holds so size most (take i names) s → IsRangeRefusal holds unreadable name 0 None s.left fault
      → IsUntaken holds unreadable (whole_stretch names) (2 ^ 30) i fault
  unsifted unreadable names i name s fault less is h refused =
      let rest : s.left ≡ 2 ^ 30 - total_size (wholes h.files) = omega (arith, h.left) in
      record {
        inside = less;
        before = wholes h.files;
        taken = taken_under (take i names) h.files h.names_are h.stand;
        within = omega (arith, h.left);
        refused = subst (λ (n : List ℕ). IsRangeRefusal holds unreadable n (begin_in (whole_stretch names) i) (end_in (whole_stretch names) i) (2 ^ 30 - total_size (wholes h.files)) fault) is
            (subst (λ (from : ℕ). IsRangeRefusal holds unreadable name from (end_in (whole_stretch names) i) (2 ^ 30 - total_size (wholes h.files)) fault) (sym (begins_whole names i))
            (subst (λ (to : Option ℕ). IsRangeRefusal holds unreadable name 0 to (2 ^ 30 - total_size (wholes h.files)) fault) (sym (ends_whole names i))
            (subst (λ (l : ℕ). IsRangeRefusal holds unreadable name 0 None l fault) rest refused)));
      }

  -- all files were sifted, and are too many
  pub many_sifted : (unreadable : Faulty) (names : List (List ℕ)) (s : SiftedFiles) → HasSifted holds so size most names s → 1024 < length names
      → IsUnreadInput holds unreadable (whole_stretch names) (Input TooManyFiles)
  many_sifted unreadable names s h many = (wholes h.files, true, taken_under names h.files h.names_are h.stand, omega (arith, h.left), many)

  -- they are an input, or have too many splits for one
  pub read_sifted : (names : List (List ℕ)) (s : SiftedFiles) → length names ≤ 1024 → (h : HasSifted holds so size most names s) → AreRead holds (whole_stretch names) (wholes h.files) true
  read_sifted names s few h = record { taken = taken_under names h.files h.names_are h.stand; few = few; small = omega (arith, h.left) }

  kept_few : (fs : List SiftedFile) → AllByRecursion (StandsSifted holds so most) fs → length (keeps fs) ≤ length fs * most
  kept_few [] h = omega arith
  kept_few (f ∷ fs) h =
      let text : Heading × List ℕ → List ℕ = λ p. p.1 in
      let both : keeps (f ∷ fs) ≡ map text (kept_files f) ++ keeps fs = map-append text (kept_files f) (flat_map kept_files fs) in
      let sum : length (map text (kept_files f) ++ keeps fs) ≡ length (map text (kept_files f)) + length (keeps fs) = length-append (map text (kept_files f)) (keeps fs) in
      let more : suc (length fs) * most ≡ length fs * most + most = suc-mul (length fs) most in
      omega (arith, ap length both, sum, length-map (kept_files f) text, length-map f.kept (as_file f.name), h.0.few, more, kept_few fs h.1)

-- ---- what is kept is an input

bytes_kept : (name : List ℕ) (ks : List KeptLines) → map (λ (p : Heading × List ℕ). p.1) (map (as_file name) ks) ≡ map (λ k. k.bytes) ks
bytes_kept name [] = refl
bytes_kept name (k ∷ ks) = ap (λ (l : List (List ℕ)). k.bytes ∷ l) (bytes_kept name ks)

kept_small : (holds : Stored) (job : JobSpec) (wanted : Wanted) (most : ℕ) (fs : List SiftedFile) → AllByRecursion (StandsSifted holds (IsUnwanted job wanted) most) fs → total_size (keeps fs) ≤ total_size (wholes fs)
kept_small holds job wanted most [] h = omega arith
kept_small holds job wanted most (f ∷ fs) h =
    let text : Heading × List ℕ → List ℕ = λ p. p.1 in
    let both : keeps (f ∷ fs) ≡ map text (kept_files f) ++ keeps fs = map-append text (kept_files f) (flat_map kept_files fs) in
    omega (arith, ap total_size both, sum_by-append length (map text (kept_files f)) (keeps fs), ap total_size (bytes_kept f.name f.kept), sifting-is-no-longer job wanted f.file f.kept h.0.sifting, sum_by-cons length f.file (wholes fs), kept_small holds job wanted most fs h.1)

pub kept_input : (holds : Stored) (job : JobSpec) (wanted : Wanted) (size most : ℕ) (names : List (List ℕ)) (s : SiftedFiles) → HasSifted holds (IsUnwanted job wanted) size most names s → length names * most ≤ 1024
    → (length s.excerpts.items ≤ 1024) × (total_size (contents s.excerpts.items) ≤ 2 ^ 30)
kept_input holds job wanted size most names s h few =
    let many : length h.files ≡ length names = sym (length-map h.files (λ (f : SiftedFile). f.name)) ∙ ap length h.names_are in (
      omega (arith, few, length-map s.excerpts.items (λ (f : Vec ℕ Global). f.items), ap length h.excerpts, kept_few holds (IsUnwanted job wanted) size most h.files h.stand, ap (λ (n : ℕ). n * most) many),
      omega (arith, ap total_size h.excerpts, kept_small holds job wanted most h.files h.stand, h.left),
    )

pub no_fault : (n m : ℕ) (fault : InputFault) → (fault ≡ TooManyFiles → 1024 < n) → (fault ≡ TooLarge → (n ≤ 1024) × (2 ^ 30 < m)) → (n ≤ 1024) × (m ≤ 2 ^ 30) → ⊥
no_fault n m TooManyFiles many large (few, small) = omega (arith, many refl, few)
no_fault n m TooLarge many large (few, small) = omega (arith, (large refl).1, small)

pub same_stretch : (o : Options) → TakesAll o → whole_stretch (input_names o) ≡ stretch_of o
same_stretch o a =
    ap (λ (from : ℕ). (let s : Stretch = record { names = input_names o; from = from; to = None } in s)) (sym a.from)
    ∙ ap (λ (to : Option ℕ). (let s : Stretch = record { names = input_names o; from = o.from; to = to } in s)) (sym a.to)

-- ---- what is printed

abbrev source_of : SiftedFile → SourceFile
source_of f = record { name = record { ref_ptr = (0, 0); now = f.name }; lines_before = 0; bytes_before = 0 }

whole_texts : (fs : List SiftedFile) → wholes fs ≡ map (λ (p : Heading × List ℕ). p.1) (map whole_file fs)
whole_texts [] = refl
whole_texts (f ∷ fs) = ap (λ (l : List (List ℕ)). f.file ∷ l) (whole_texts fs)

whole_headings : (fs : List SiftedFile) → map heading_of (map source_of fs) ≡ map (λ (p : Heading × List ℕ). p.0) (map whole_file fs)
whole_headings [] = refl
whole_headings (f ∷ fs) = ap (λ (l : List Heading). (f.name, 0, 0) ∷ l) (whole_headings fs)

whole_sources : (fs : List SiftedFile) → map source_told (map source_of fs) ≡ sources_from 0 0 (names_of fs)
whole_sources [] = refl
whole_sources (f ∷ fs) = ap (λ (l : List Heading). (f.name, 0, 0) ∷ l) (whole_sources fs)

none_skipped : (request : RequestSpec) (files : List (List ℕ)) → skip_fault request files [] ≡ None
none_skipped request files = (good_skips request files []).1 (omega arith, tt, tt)

none_compared : (a b : Query) (wanted : Wanted) (text : List ℕ) (status : ℕ) → Compares a wanted None text status → Compares b wanted None text status
none_compared a b (Key key) text status h = h
none_compared a b Nothing text status h = h

-- a query over what is kept, and the same over the whole files
module _ (holds : Stored) (o : ExplainOptions) (run : SiftedRun) (kept : Query) (a : AsksAlone o) (h : IsSiftedRun holds o.options kept.wanted run)
    (job : kept.job.now ≡ run.request.job) (plan : kept.plan.now.files ≡ run.input) (skips : kept.skips.now ≡ []) (sources : kept.sources.now ≡ run.sources.items)
    (sought : IsSought (option_map (λ s. s.now) o.key) kept.wanted) (limit : kept.limit ≡ o.limit) where
  abbrev whole : Query
  whole = record {
    job = record { ref_ptr = (0, 0); now = (request_asked o.options).job };
    plan = record { ref_ptr = (0, 0); now = record { size = o.options.split; files = wholes h.files } };
    skips = record { ref_ptr = (0, 0); now = [] };
    sources = record { ref_ptr = (0, 0); now = map source_of h.files };
    wanted = kept.wanted;
    limit = kept.limit;
  }

  same_job : kept.job.now ≡ whole.job.now
  same_job = job ∙ ap (λ (v : RequestSpec). v.job) h.request

  exact : (explanation kept ≡ explanation whole)
      × ((totals : Totals) → AreCounts kept.job.now kept.wanted (kept_of kept) totals → AreCounts whole.job.now whole.wanted (kept_of whole) totals)
  exact =
      let so : List ℕ → Type 0 = IsUnwanted whole.job.now kept.wanted in
      let siftings = all-map (StandsSifted holds so h.most) (λ (f : SiftedFile). IsSifting so f.file f.kept) h.files (λ f s. s.sifting) h.stand in
      sifting-is-exact h.files whole kept siftings
      (record { none_left_out = refl; files_are = whole_texts h.files; printed_as = whole_headings h.files })
      (record { none_left_out = skips; files_are = plan ∙ h.input; printed_as = ap (map heading_of) sources ∙ h.sources })
      (record { job = same_job; wanted = refl; limit = refl })

  whole_asked : IsQueryOf holds o whole
  whole_asked = record {
    files = wholes h.files;
    lines = 0;
    input = (true, record { taken = taken_of holds (IsUnwanted whole.job.now kept.wanted) o.options.split h.most o.options h.files a.all h.names_are h.stand; fits = h.fits });
    before = inl (a.all.from, refl);
    job = refl;
    size = refl;
    files_are = refl;
    spelled = a.skips;
    allowed = none_skipped (request_asked o.options) (wholes h.files);
    sources = whole_sources h.files ∙ ap (sources_from 0 0) h.names_are ∙ ap (λ (from : ℕ). sources_from 0 from (input_names o.options)) (sym a.all.from);
    sought = sought;
    limit = limit;
  }

  -- what is printed over what was kept is what is asked for over the whole files
  pub explained_sifted : (before after : Seen) (status : ℕ)
      → ((text : List ℕ) × Compares kept kept.wanted None text status × (after ≡ flushed (with_bytes before (explanation kept ++ text))))
      → AnswersExplain holds o before after status
  explained_sifted before after status p = record {
    query = whole;
    part = None;
    text = p.0;
    asked = whole_asked;
    compared = subst (λ (r : Option _). IsComparedPart holds (request_asked o.options) (option_map (λ s. s.now) r) (option_map (λ s. s.now) o.key) None) (sym a.result) refl;
    said = none_compared kept whole kept.wanted p.0 status p.1;
    printed = p.2 ∙ ap (λ (e : List ℕ). flushed (with_bytes before (e ++ p.0))) exact.0;
  }

  none_left : (other : JobSpec) (skips : List RecordName) → skips ≡ [] → (cut : Cut) (totals : Totals) → AreCounts other kept.wanted (filter_map (record_named (records_of cut)) skips) totals
      → AreCounts whole.job.now kept.wanted [] totals
  none_left other skips none cut totals counts =
      let empty : AreCounts other kept.wanted [] totals = subst (λ (l : List RecordName). AreCounts other kept.wanted (filter_map (record_named (records_of cut)) l) totals) none counts in
      record { pairs = empty.pairs; records = empty.records }

  -- what is counted over what was kept is what is counted over the whole files
  pub known_sifted : (lengths : List ℕ) (facts : Facts) → lengths ≡ map length (wholes h.files) → IsCounted kept lengths facts → AreExplainFacts holds o facts
  known_sifted lengths (told.Job j) these counted = absurd counted
  known_sifted lengths (told.Verdict v) these counted = absurd counted
  known_sifted lengths told.Nothing these counted = absurd counted
  known_sifted lengths (told.Evidence inputs e) these counted = record {
    query = whole;
    asked = whole_asked;
    lengths = counted.0 ∙ these;
    kept = exact.1 e.kept counted.1;
    left_out = none_left kept.job.now kept.skips.now skips kept.plan.now e.left_out counted.2;
  }
