-- The pairs that are emitted over the files of portions.
use Rattle.std.proofs.Common.{◌≡◌, ℕ, ◌+◌, cond, List, [], ◌∷◌, ◌++◌, length, map, refl, sym, ◌∙◌, ap, true, false, Bool}
use Rattle.std.proofs.lemmas.List.{append_assoc, map-append}
use Rattle.std.specs.List.{flat_map}
use Rattle.mr_bytes.specs.declared.RecordName.{RecordName}
use Rattle.mr_bytes.specs.declared.Value.{Value}
use Rattle.mr_bytes.specs.Pairs.{Triple}
use Rattle.mr_jobs.specs.declared.job.GroupText.{GroupText}
use Rattle.mr_jobs.specs.declared.job.GroupText.TheVariants.{Count, Lines, Files}
use Rattle.mr_jobs.specs.JobSpec.{JobSpec, group_text_of}
use Rattle.mr_jobs.specs.Emissions.{Emission, emissions, keys_of, value_at, value_for}
use Rattle.mr_splits.specs.Cut.{left_out_flags}
use Rattle.mr_splits.specs.Named.{NamedRecord, is_left_out, named_records}
use Rattle.mr_sequential.specs.Emitted.{emitted, placed_from, record_triples}
use Rattle.mr_shards.specs.Portions.{Portion, Shift, AreCutAtLines, last_file, put_together, shift_behind, shifted_start, shifted_value, whole_of, shift_of}
use Rattle.mr_shards.specs.PortionLaws.{EmittedOfBoth, pairs_of, shifted_pair}
use Rattle.mr_shards.proofs.BareLemmas.{Bare, all_bares, bare, bares, bares-together, bares-whole, named-bare, shifted_bare}

-- what records give by their flags: one that is set leaves its record out
abbrev pub kept_pairs : JobSpec → List Bool → List Bare → List Emission
kept_pairs job [] bs = []
kept_pairs job (t ∷ ts) [] = []
kept_pairs job (t ∷ ts) (b ∷ bs) = cond t [] (emissions job b.file b.start b.bytes) ++ kept_pairs job ts bs

placed-pairs : (name : RecordName) (place : ℕ) (es : List Emission) → pairs_of (placed_from name place es) ≡ es
unfolding placed_from
placed-pairs name place [] = refl
placed-pairs name place (e ∷ es) = ap (λ l. e ∷ l) (placed-pairs name (place + 1) es)

record-pairs : (job : JobSpec) (skips : List RecordName) (r : NamedRecord)
    → pairs_of (record_triples job skips r) ≡ cond (is_left_out skips r.name) [] (emissions job r.file r.start r.bytes)
record-pairs job skips r = by (is_left_out skips r.name)
  where
    by : (t : Bool) → pairs_of (cond t [] (placed_from r.name 0 (emissions job r.file r.start r.bytes))) ≡ cond t [] (emissions job r.file r.start r.bytes)
    by true = refl
    by false = placed-pairs r.name 0 (emissions job r.file r.start r.bytes)

pub pairs-kept : (job : JobSpec) (skips : List RecordName) (rs : List NamedRecord)
    → pairs_of (flat_map (record_triples job skips) rs) ≡ kept_pairs job (left_out_flags skips rs) (map bare rs)
pairs-kept job skips [] = refl
pairs-kept job skips (r ∷ rs) =
    let later : List Triple = flat_map (record_triples job skips) rs in
    map-append (λ (t : Triple). (t.key, t.value)) (record_triples job skips r) later
    ∙ ap (λ l. l ++ pairs_of later) (record-pairs job skips r)
    ∙ ap (λ l. cond (is_left_out skips r.name) [] (emissions job r.file r.start r.bytes) ++ l) (pairs-kept job skips rs)

pub kept-append : (job : JobSpec) (skips : List RecordName) (rs : List NamedRecord) (ts : List Bool) (bs : List Bare)
    → kept_pairs job (left_out_flags skips rs ++ ts) (map bare rs ++ bs) ≡ kept_pairs job (left_out_flags skips rs) (map bare rs) ++ kept_pairs job ts bs
kept-append job skips [] ts bs = refl
kept-append job skips (r ∷ rs) ts bs =
    let here : List Emission = cond (is_left_out skips r.name) [] (emissions job r.file r.start r.bytes) in
    ap (λ l. here ++ l) (kept-append job skips rs ts bs)
    ∙ sym (append_assoc here (kept_pairs job (left_out_flags skips rs) (map bare rs)) (kept_pairs job ts bs))

-- ---- places that are moved

map-two : {X Y Z : Type 0} (f : Y → Z) (g : X → Y) (h : X → Z) (xs : List X) → ((x : X) → f (g x) ≡ h x) → map f (map g xs) ≡ map h xs
map-two f g h [] same = refl
map-two f g h (x ∷ xs) same = let here = same x in let rest = map-two f g h xs same in λ i. here i ∷ rest i

value-shifted : (form : GroupText) (s : Shift) (file start : ℕ) → value_for form (s.files + file) (shifted_start s file start) ≡ shifted_value s (value_for form file start)
value-shifted Count s file start = refl
value-shifted Lines s file start = refl
value-shifted Files s file start = refl

emissions-shifted : (job : JobSpec) (s : Shift) (file start : ℕ) (line : List ℕ)
    → emissions job (s.files + file) (shifted_start s file start) line ≡ map (shifted_pair s) (emissions job file start line)
emissions-shifted job s file start line =
    let moved : List ℕ → Emission = λ key. (key, value_at job (s.files + file) (shifted_start s file start)) in
    sym (map-two (shifted_pair s) (λ key. (key, value_at job file start)) moved (keys_of job line)
    (λ key. ap (λ (v : Value). (key, v)) (sym (value-shifted (group_text_of job) s file start))))

pub kept-shifted : (job : JobSpec) (s : Shift) (ts : List Bool) (bs : List Bare) → kept_pairs job ts (map (shifted_bare s) bs) ≡ map (shifted_pair s) (kept_pairs job ts bs)
kept-shifted job s [] bs = refl
kept-shifted job s (t ∷ ts) [] = refl
kept-shifted job s (t ∷ ts) (b ∷ bs) =
    let here : List Emission = cond t [] (emissions job b.file b.start b.bytes) in
    ap (λ l. l ++ kept_pairs job ts (map (shifted_bare s) bs)) (by t)
    ∙ ap (λ l. map (shifted_pair s) here ++ l) (kept-shifted job s ts bs)
    ∙ sym (map-append (shifted_pair s) here (kept_pairs job ts bs))
  where
    by : (t : Bool) → cond t [] (emissions job (s.files + b.file) (shifted_start s b.file b.start) b.bytes) ≡ map (shifted_pair s) (cond t [] (emissions job b.file b.start b.bytes))
    by true = refl
    by false = emissions-shifted job s b.file b.start b.bytes

-- ---- two portions

-- what is emitted, by the flags of the records
pub emitted-kept : (job : JobSpec) (size : ℕ) (files : List (List ℕ)) (skips : List RecordName)
    → pairs_of (emitted job size files skips) ≡ kept_pairs job (left_out_flags skips (named_records size files)) (bares 0 files)
emitted-kept job size files skips =
    pairs-kept job skips (named_records size files) ∙ ap (kept_pairs job (left_out_flags skips (named_records size files))) (named-bare size files)

pub kept-both : (job : JobSpec) (size : ℕ) (fs : List (List ℕ)) (first : List RecordName) (s : Shift) (ts : List Bool) (bs : List Bare)
    → kept_pairs job (left_out_flags first (named_records size fs) ++ ts) (bares 0 fs ++ map (shifted_bare s) bs)
    ≡ pairs_of (emitted job size fs first) ++ map (shifted_pair s) (kept_pairs job ts bs)
kept-both job size fs first s ts bs =
    let flags : List Bool = left_out_flags first (named_records size fs) in
    ap (λ l. kept_pairs job (flags ++ ts) (l ++ map (shifted_bare s) bs)) (sym (named-bare size fs))
    ∙ kept-append job first (named_records size fs) ts (map (shifted_bare s) bs)
    ∙ ap (λ l. l ++ kept_pairs job ts (map (shifted_bare s) bs)) (sym (pairs-kept job first (named_records size fs)))
    ∙ ap (λ l. pairs_of (emitted job size fs first) ++ l) (kept-shifted job s ts bs)

pub emitted_of_both : EmittedOfBoth
emitted_of_both job size on fs gs first second whole ends same =
    let s : Shift = shift_behind on (length fs) (length (last_file fs)) in
    let flags : List Bool = left_out_flags second (named_records size gs) in
    emitted-kept job size (put_together on fs gs) whole
    ∙ ap (λ l. kept_pairs job l (bares 0 (put_together on fs gs))) same
    ∙ ap (kept_pairs job (left_out_flags first (named_records size fs) ++ flags)) (bares-together on fs gs ends)
    ∙ kept-both job size fs first s flags (bares 0 gs)
    ∙ ap (λ l. pairs_of (emitted job size fs first) ++ map (shifted_pair s) l) (sym (emitted-kept job size gs second))

-- ---- all portions

abbrev pub all_flags : ℕ → List Portion → List Bool
all_flags size [] = []
all_flags size (s ∷ ss) = left_out_flags s.skips (named_records size s.files) ++ all_flags size ss

abbrev pub all_pairs : JobSpec → ℕ → List Portion → List Emission
all_pairs job size [] = []
all_pairs job size (s ∷ ss) = pairs_of (emitted job size s.files s.skips) ++ map (shifted_pair (shift_of s)) (all_pairs job size ss)

kept-all : (job : JobSpec) (size : ℕ) (portions : List Portion) → kept_pairs job (all_flags size portions) (all_bares portions) ≡ all_pairs job size portions
kept-all job size [] = refl
kept-all job size (s ∷ ss) =
    kept-both job size s.files s.skips (shift_of s) (all_flags size ss) (all_bares ss)
    ∙ ap (λ l. pairs_of (emitted job size s.files s.skips) ++ map (shifted_pair (shift_of s)) l) (kept-all job size ss)

pub emitted-all : (job : JobSpec) (size : ℕ) (portions : List Portion) (skips : List RecordName) → AreCutAtLines portions
    → left_out_flags skips (named_records size (whole_of portions)) ≡ all_flags size portions
    → pairs_of (emitted job size (whole_of portions) skips) ≡ all_pairs job size portions
emitted-all job size portions skips cut same =
    emitted-kept job size (whole_of portions) skips
    ∙ ap (λ l. kept_pairs job l (bares 0 (whole_of portions))) same
    ∙ ap (kept_pairs job (all_flags size portions)) (bares-whole portions cut)
    ∙ kept-all job size portions
