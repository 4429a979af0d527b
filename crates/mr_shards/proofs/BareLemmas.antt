-- The records of files without their names, where the files are those of two portions, put together.
use Rattle.std.proofs.Common.{◌≡◌, ℕ, ◌+◌, ◌-◌, ◌/◌, ◌<◌, cond, eqb, List, [], ◌∷◌, ◌++◌, length, map, refl, sym, ◌∙◌, ap, arith, true, false, Bool}
use Rattle.std.proofs.lemmas.Bool.{ne_eqb}
use Rattle.std.proofs.lemmas.List.{append-nil, append_assoc, map-append}
use Rattle.mr_input.specs.Files.{split_count}
use Rattle.mr_records.specs.Records.{Record, records}
use Rattle.mr_shards.specs.Lines.{EndsLine}
use Rattle.mr_splits.specs.Named.{NamedRecord, named_from, named_files, named_records}
use Rattle.mr_shards.specs.Cut.{record_behind}
use Rattle.mr_shards.specs.Portions.{Portion, Shift, AreCutAtLines, glued, last_file, put_together, shift_behind, shifted_start, whole_of, shift_of}
use Rattle.mr_shards.proofs.RecordLemmas.{records_of_both}

-- a record by the number of its file and its place there
pub record Bare : Type 0 where
  pub file : ℕ
  pub start : ℕ
  pub bytes : List ℕ

abbrev pub bare : NamedRecord → Bare
bare r = record { file = r.file; start = r.start; bytes = r.bytes }

abbrev pub bare_in : ℕ → Record → Bare
bare_in file r = record { file = file; start = r.start; bytes = r.bytes }

-- the records of files, the first of which has this number
abbrev pub bares : ℕ → List (List ℕ) → List Bare
bares file [] = []
bares file (f ∷ fs) = map (bare_in file) (records f) ++ bares (file + 1) fs

abbrev pub shifted_bare : Shift → Bare → Bare
shifted_bare s b = record { file = s.files + b.file; start = shifted_start s b.file b.start; bytes = b.bytes }

abbrev pub shift : ℕ → ℕ → Shift
shift files bytes = record { files = files; bytes = bytes }

-- ---- the named records are these

named_from-bare : (size file first split next : ℕ) (rs : List Record) → map bare (named_from size file first split next rs) ≡ map (bare_in file) rs
unfolding named_from
named_from-bare size file first split next [] = refl
named_from-bare size file first split next (r ∷ rs) =
    let here : ℕ = first + r.start / size in
    let number : ℕ = cond (eqb here split) next 0 in
    ap (λ l. bare_in file r ∷ l) (named_from-bare size file first here (number + 1) rs)

named_files-bare : (size file first : ℕ) (fs : List (List ℕ)) → map bare (named_files size file first fs) ≡ bares file fs
unfolding named_files
named_files-bare size file first [] = refl
named_files-bare size file first (f ∷ fs) =
    let later : List NamedRecord = named_files size (file + 1) (first + split_count size f) fs in
    map-append bare (named_from size file first first 0 (records f)) later
    ∙ ap (λ l. l ++ map bare later) (named_from-bare size file first first 0 (records f))
    ∙ ap (λ l. map (bare_in file) (records f) ++ l) (named_files-bare size (file + 1) (first + split_count size f) fs)

pub named-bare : (size : ℕ) (fs : List (List ℕ)) → map bare (named_records size fs) ≡ bares 0 fs
named-bare size fs = named_files-bare size 0 0 fs

-- ---- records that are moved

-- of a later file
shifted-in : (s : Shift) (file : ℕ) (rs : List Record) → 0 < file → map (shifted_bare s) (map (bare_in file) rs) ≡ map (bare_in (s.files + file)) rs
shifted-in s file [] later = refl
shifted-in s file (r ∷ rs) later =
    let start : shifted_start s file r.start ≡ r.start =
    ap (λ t. cond t (s.bytes + r.start) r.start) (ne_eqb file 0 (λ e. omega (arith, e, later))) in
    let rest = shifted-in s file rs later in
    λ i. record { file = s.files + file; start = start i; bytes = r.bytes } ∷ rest i

shifted-later : (s : Shift) (file : ℕ) (gs : List (List ℕ)) → 0 < file → map (shifted_bare s) (bares file gs) ≡ bares (s.files + file) gs
shifted-later s file [] later = refl
shifted-later s file (g ∷ gs) later =
    let next : s.files + (file + 1) ≡ s.files + file + 1 = omega arith in
    map-append (shifted_bare s) (map (bare_in file) (records g)) (bares (file + 1) gs)
    ∙ ap (λ l. l ++ map (shifted_bare s) (bares (file + 1) gs)) (shifted-in s file (records g) later)
    ∙ ap (λ l. map (bare_in (s.files + file)) (records g) ++ l) (shifted-later s (file + 1) gs (omega arith))
    ∙ ap (λ n. map (bare_in (s.files + file)) (records g) ++ bares n gs) next

-- of the first file
shifted-first : (s : Shift) (rs : List Record) → map (shifted_bare s) (map (bare_in 0) rs) ≡ map (bare_in s.files) (map (record_behind s.bytes) rs)
shifted-first s [] = refl
shifted-first s (r ∷ rs) =
    let file : s.files + 0 ≡ s.files = omega arith in
    let rest = shifted-first s rs in
    λ i. record { file = file i; start = s.bytes + r.start; bytes = r.bytes } ∷ rest i

behind-none : (rs : List Record) → map (record_behind 0) rs ≡ rs
behind-none [] = refl
behind-none (r ∷ rs) =
    let start : 0 + r.start ≡ r.start = omega arith in
    let rest = behind-none rs in
    λ i. record { start = start i; bytes = r.bytes } ∷ rest i

shifted-all : (s : Shift) (g : List ℕ) (gs : List (List ℕ))
    → map (shifted_bare s) (bares 0 (g ∷ gs)) ≡ map (bare_in s.files) (map (record_behind s.bytes) (records g)) ++ bares (s.files + 1) gs
shifted-all s g gs =
    map-append (shifted_bare s) (map (bare_in 0) (records g)) (bares 1 gs)
    ∙ ap (λ l. l ++ map (shifted_bare s) (bares 1 gs)) (shifted-first s (records g))
    ∙ ap (λ l. map (bare_in s.files) (map (record_behind s.bytes) (records g)) ++ l) (shifted-later s 1 gs (omega arith))

-- behind whole files
shifted-plain : (files : ℕ) (gs : List (List ℕ)) → bares files gs ≡ map (shifted_bare (shift files 0)) (bares 0 gs)
shifted-plain files [] = refl
shifted-plain files (g ∷ gs) =
    sym (shifted-all (shift files 0) g gs ∙ ap (λ l. map (bare_in files) l ++ bares (files + 1) gs) (behind-none (records g)))

-- ---- both

bares-append : (file : ℕ) (fs gs : List (List ℕ)) → bares file (fs ++ gs) ≡ bares file fs ++ map (shifted_bare (shift (file + length fs) 0)) (bares 0 gs)
bares-append file [] gs =
    let none : file ≡ file + 0 = omega arith in
    shifted-plain file gs ∙ ap (λ n. map (shifted_bare (shift n 0)) (bares 0 gs)) none
bares-append file (f ∷ fs) gs =
    let next : file + 1 + length fs ≡ file + length (f ∷ fs) = omega arith in
    let here : List Bare = map (bare_in file) (records f) in
    ap (λ l. here ++ l) (bares-append (file + 1) fs gs)
    ∙ ap (λ n. here ++ (bares (file + 1) fs ++ map (shifted_bare (shift n 0)) (bares 0 gs))) next
    ∙ sym (append_assoc here (bares (file + 1) fs) (map (shifted_bare (shift (file + length (f ∷ fs)) 0)) (bares 0 gs)))

map-behind : (file d : ℕ) (a b : List Record) → map (bare_in file) (a ++ map (record_behind d) b) ≡ map (bare_in file) a ++ map (bare_in file) (map (record_behind d) b)
map-behind file d a b = map-append (bare_in file) a (map (record_behind d) b)

-- one file, with the rest of it
bares-one : (file : ℕ) (f : List ℕ) (gs : List (List ℕ)) → EndsLine f
    → bares file (glued (f ∷ []) gs) ≡ bares file (f ∷ []) ++ map (shifted_bare (shift file (length f))) (bares 0 gs)
bares-one file f [] ends = sym (append-nil (bares file (f ∷ [])))
bares-one file f (g ∷ gs) ends =
    let s : Shift = shift file (length f) in
    let front : List Bare = map (bare_in file) (records f) in
    let more : List Bare = map (bare_in file) (map (record_behind (length f)) (records g)) in
    ap (λ rs. map (bare_in file) rs ++ bares (file + 1) gs) (records_of_both f g ends)
    ∙ ap (λ l. l ++ bares (file + 1) gs) (map-behind file (length f) (records f) (records g))
    ∙ append_assoc front more (bares (file + 1) gs)
    ∙ ap (λ l. front ++ l) (sym (shifted-all s g gs))
    ∙ ap (λ l. l ++ map (shifted_bare s) (bares 0 (g ∷ gs))) (sym (append-nil front))

bares-glued : (file : ℕ) (fs gs : List (List ℕ)) → EndsLine (last_file fs)
    → bares file (glued fs gs) ≡ bares file fs ++ map (shifted_bare (shift (file + (length fs - 1)) (length (last_file fs)))) (bares 0 gs)
bares-glued file [] gs ends =
    let none : file ≡ file + (length {A = List ℕ} [] - 1) = omega arith in
    shifted-plain file gs ∙ ap (λ n. map (shifted_bare (shift n 0)) (bares 0 gs)) none
bares-glued file (f ∷ []) gs ends =
    let none : file ≡ file + (length (f ∷ []) - 1) = omega arith in
    bares-one file f gs ends ∙ ap (λ n. bares file (f ∷ []) ++ map (shifted_bare (shift n (length f))) (bares 0 gs)) none
bares-glued file (f ∷ f' ∷ fs) gs ends =
    let next : file + 1 + (length (f' ∷ fs) - 1) ≡ file + (length (f ∷ f' ∷ fs) - 1) = omega arith in
    let here : List Bare = map (bare_in file) (records f) in
    let last : ℕ = length (last_file (f' ∷ fs)) in
    ap (λ l. here ++ l) (bares-glued (file + 1) (f' ∷ fs) gs ends)
    ∙ ap (λ n. here ++ (bares (file + 1) (f' ∷ fs) ++ map (shifted_bare (shift n last)) (bares 0 gs))) next
    ∙ sym (append_assoc here (bares (file + 1) (f' ∷ fs)) (map (shifted_bare (shift (file + (length (f ∷ f' ∷ fs) - 1)) last)) (bares 0 gs)))

-- the records of the files of two portions, put together
pub bares-together : (on : Bool) (fs gs : List (List ℕ)) → (on ≡ true → EndsLine (last_file fs))
    → bares 0 (put_together on fs gs) ≡ bares 0 fs ++ map (shifted_bare (shift_behind on (length fs) (length (last_file fs)))) (bares 0 gs)
bares-together true fs gs ends =
    let none : 0 + (length fs - 1) ≡ length fs - 1 = omega arith in
    bares-glued 0 fs gs (ends refl) ∙ ap (λ n. bares 0 fs ++ map (shifted_bare (shift n (length (last_file fs)))) (bares 0 gs)) none
bares-together false fs gs ends =
    let none : 0 + length fs ≡ length fs = omega arith in
    bares-append 0 fs gs ∙ ap (λ n. bares 0 fs ++ map (shifted_bare (shift n 0)) (bares 0 gs)) none

-- ---- those of all portions

abbrev pub all_bares : List Portion → List Bare
all_bares [] = []
all_bares (s ∷ ss) = bares 0 s.files ++ map (shifted_bare (shift_of s)) (all_bares ss)

pub bares-whole : (portions : List Portion) → AreCutAtLines portions → bares 0 (whole_of portions) ≡ all_bares portions
bares-whole [] cut = refl
bares-whole (s ∷ ss) cut =
    bares-together s.cut s.files (whole_of ss) cut.0
    ∙ ap (λ l. bares 0 s.files ++ map (shifted_bare (shift_of s)) l) (bares-whole ss cut.1)
