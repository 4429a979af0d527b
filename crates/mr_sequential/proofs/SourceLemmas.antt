-- Records one after another, and how many pairs they give.
use Rattle.std.proofs.Common.{◌≡◌, ℕ, ◌+◌, ◌/◌, ◌≤◌, ◌^◌, cond, not, true, false, List, [], ◌∷◌, ◌++◌, length, refl, sym, ◌∙◌, ap, arith, append_assoc, map, eqb, count_by, ◌==◌, Bool}
use Rattle.std.specs.Int.{from_bool}
use Rattle.std.proofs.lemmas.List.{map-append, append-nil, length-append, length-map}
use Rattle.std.proofs.lemmas.List.Sums.{sum_by-cons}
use Rattle.std.specs.List.{flat_map}
use Rattle.mr_bytes.specs.declared.RecordName.{RecordName}
use Rattle.mr_records.specs.Records.{Record, lengthen, records_from, records}
use Rattle.mr_input.specs.Files.{split_count, total_size}
use Rattle.mr_jobs.specs.JobSpec.{JobSpec, RequestSpec}
use Rattle.mr_jobs.specs.Emissions.{Emission, emissions}
use Rattle.mr_jobs.proofs.CountLemmas.{few_emissions}
use Rattle.mr_splits.specs.Named.{NamedRecord, is_left_out, named_from, named_files, named_records}
use Rattle.mr_splits.specs.Kept.{kept_records}
use Rattle.mr_bytes.specs.Pairs.{Triple}
use Rattle.mr_sequential.specs.Emitted.{placed_from, record_triples, emitted, gives_nothing}
use Rattle.mr_certform.specs.Packed.{names_from}
use Rattle.mr_sequential.specs.Names.{record_names}
use Rattle.mr_sequential.specs.Pairs.{kept_pairs, record_keys}
pub use Rattle.std.proofs.lemmas.List.Concat.{flat_map-append}

-- what is made of kept records is made of all triples, where it is made of the triples of each
kept-triples : {Y : Type 0} (g : Triple → Y) (f : NamedRecord → List Y) (job : JobSpec) (skips : List RecordName)
    → ((r : NamedRecord) → f r ≡ map g (placed_from r.name 0 (emissions job r.file r.start r.bytes)))
    → (rs : List NamedRecord) → flat_map f (kept_records skips rs) ≡ map g (flat_map (record_triples job skips) rs)
kept-triples g f job skips each [] = refl
kept-triples {Y} g f job skips each (r ∷ rs) =
    let ts : List Triple = placed_from r.name 0 (emissions job r.file r.start r.bytes) in
    let kept : List NamedRecord = kept_records skips rs in
    let later : List Triple = flat_map (record_triples job skips) rs in
    elim (is_left_out skips r.name) as (λ t. flat_map f (cond (not t) (r ∷ kept) kept) ≡ map g (cond t [] ts ++ later)) [
      | true ↦ kept-triples g f job skips each rs
      | false ↦
          ap (λ (l : List Y). l ++ flat_map f kept) (each r) ∙ ap (λ (l : List Y). map g ts ++ l) (kept-triples g f job skips each rs)
          ∙ sym (map-append g ts later)
    ]

placed-keys : (name : RecordName) (place : ℕ) (es : List Emission) → map (λ (e : Emission). e.0) es ≡ map (λ (t : Triple). t.key) (placed_from name place es)
unfolding placed_from
placed-keys name place [] = refl
placed-keys name place (e ∷ es) = ap (λ l. e.0 ∷ l) (placed-keys name (place + 1) es)

placed-names : (name : RecordName) (place : ℕ) (es : List Emission) → names_from name place (length es) ≡ map (λ (t : Triple). t.name) (placed_from name place es)
unfolding placed_from names_from
placed-names name place [] = refl
placed-names name place (e ∷ es) = ap (λ l. record { split = name.split; rec = name.rec; place = place } ∷ l) (placed-names name (place + 1) es)

pub kept-keys : (job : JobSpec) (skips : List RecordName) (rs : List NamedRecord)
    → flat_map (record_keys job) (kept_records skips rs) ≡ map (λ (t : Triple). t.key) (flat_map (record_triples job skips) rs)
kept-keys job skips rs =
    kept-triples (λ (t : Triple). t.key) (record_keys job) job skips (λ r. placed-keys r.name 0 (emissions job r.file r.start r.bytes)) rs

pub kept-names : (job : JobSpec) (skips : List RecordName) (rs : List NamedRecord)
    → flat_map (record_names job) (kept_records skips rs) ≡ map (λ (t : Triple). t.name) (flat_map (record_triples job skips) rs)
kept-names job skips rs =
    kept-triples (λ (t : Triple). t.name) (record_names job) job skips (λ r. placed-names r.name 0 (emissions job r.file r.start r.bytes)) rs

-- one more of the records
pub next_gathered : {Y : Type 0} (f : NamedRecord → List Y) (old now given all : List Y) (left later : List NamedRecord) (r : NamedRecord)
    → left ≡ r ∷ later → given ≡ f r → now ≡ old ++ given → old ++ flat_map f left ≡ all → now ++ flat_map f later ≡ all
next_gathered {Y} f old now given all left later r is one grown before =
    ap (λ (l : List Y). l ++ flat_map f later) (grown ∙ ap (λ (l : List Y). old ++ l) one) ∙ append_assoc old (f r) (flat_map f later)
    ∙ ap (λ (l : List NamedRecord). old ++ flat_map f l) (sym is) ∙ before

from_bool-cond : (b : Bool) → from_bool b ≡ cond b 1 0
from_bool-cond b = elim b as (λ b. from_bool b ≡ cond b 1 0) [
  | true ↦ refl
  | false ↦ refl
]

pub one-at-most : (b : Bool) → from_bool b ≤ 1
one-at-most b = elim b as (λ b. from_bool b ≤ 1) [
  | true ↦ omega arith
  | false ↦ omega arith
]

-- one more of the records, which gives nothing or something
pub next_silent : (job : JobSpec) (r : NamedRecord) (left later : List NamedRecord) (old n quiet all : ℕ)
    → left ≡ r ∷ later → quiet ≡ from_bool (n == 0) → n ≡ length (emissions job r.file r.start r.bytes)
    → old + count_by (gives_nothing job) left ≡ all → old + quiet + count_by (gives_nothing job) later ≡ all
next_silent job r left later old n quiet all is one many before =
    let told : quiet ≡ cond (gives_nothing job r) 1 0 = one ∙ from_bool-cond (n == 0) ∙ ap (λ (m : ℕ). cond {A = ℕ} (m == 0) 1 0) many in
    omega (arith, before, told, ap (count_by (gives_nothing job)) is, sum_by-cons (λ (s : NamedRecord). cond (gives_nothing job s) 1 0) r later)

-- no more records
pub last_gathered : {Y : Type 0} (f : NamedRecord → List Y) (old all : List Y) (left : List NamedRecord) → left ≡ [] → old ++ flat_map f left ≡ all → old ≡ all
last_gathered {Y} f old all left none before = sym (ap (λ (l : List NamedRecord). old ++ flat_map f l) none ∙ append-nil old) ∙ before

-- ---- how many pairs there can be: each record gives at most one more than it has bytes

room : List NamedRecord → ℕ
room [] = 0
room (r ∷ rs) = length r.bytes + 1 + room rs

plain_room : List Record → ℕ
plain_room [] = 0
plain_room (r ∷ rs) = length r.bytes + 1 + plain_room rs

room-append : (xs ys : List NamedRecord) → room (xs ++ ys) ≡ room xs + room ys
unfolding room
room-append [] ys = omega arith
room-append (x ∷ xs) ys = omega (arith, room-append xs ys)

room-named : (size file first split next : ℕ) (rs : List Record) → room (named_from size file first split next rs) ≡ plain_room rs
unfolding room plain_room named_from
room-named size file first split next [] = refl
room-named size file first split next (r ∷ rs) =
    ap (λ n. length r.bytes + 1 + n)
    (room-named size file first (first + r.start / size) (cond (eqb (first + r.start / size) split) next 0 + 1) rs)

room-lengthen : (at b n : ℕ) (rs : List Record) → plain_room rs ≤ n + 1 → plain_room (lengthen at b rs) ≤ n + 2
unfolding plain_room lengthen
room-lengthen at b n [] h = omega arith
room-lengthen at b n (r ∷ rs) h = omega (arith, h)

room-records : (at : ℕ) (bs : List ℕ) → plain_room (records_from at bs) ≤ length bs + 1
unfolding plain_room records_from
room-records at [] = omega arith
room-records at (b ∷ bs) =
    let rest : List Record = records_from (at + 1) bs in
    let later : plain_room rest ≤ length bs + 1 = room-records (at + 1) bs in
    let longer : plain_room (lengthen at b rest) ≤ length bs + 2 = room-lengthen at b (length bs) rest later in
    elim (eqb b 10) as (λ t. plain_room (cond t (record { start = at; bytes = [] } ∷ rest) (lengthen at b rest)) ≤ length (b ∷ bs) + 1) [
      | true ↦ omega (arith, later)
      | false ↦ omega (arith, longer)
    ]

room-files : (size file first : ℕ) (files : List (List ℕ)) → room (named_files size file first files) ≤ total_size files + length files
unfolding room named_files
room-files size file first [] = omega arith
room-files size file first (f ∷ fs) =
    let here = room-named size file first first 0 (records f) in
    let later = room-files size (file + 1) (first + split_count size f) fs in
    omega (
      arith,
      room-append (named_from size file first first 0 (records f)) (named_files size (file + 1) (first + split_count size f) fs),
      here,
      later,
      room-records 0 f,
      sum_by-cons (length {A = ℕ}) f fs,
    )

kept-few : (job : JobSpec) (skips : List RecordName) (r : NamedRecord) → length (kept_pairs job skips r) ≤ length r.bytes + 1
kept-few job skips r =
    elim (is_left_out skips r.name) as (λ t. length (cond t [] (emissions job r.file r.start r.bytes)) ≤ length r.bytes + 1) [
      | true ↦ omega arith
      | false ↦ few_emissions job r.file r.start r.bytes
    ]

kept-room : (job : JobSpec) (skips : List RecordName) (rs : List NamedRecord) → length (flat_map (kept_pairs job skips) rs) ≤ room rs
unfolding room
kept-room job skips [] = omega arith
kept-room job skips (r ∷ rs) =
    omega (arith, length-append (kept_pairs job skips r) (flat_map (kept_pairs job skips) rs), kept-few job skips r, kept-room job skips rs)

pub few_pairs : (job : JobSpec) (skips : List RecordName) (size : ℕ) (files : List (List ℕ)) → length files ≤ 1024 → total_size files ≤ 2 ^ 30
    → length (flat_map (kept_pairs job skips) (named_records size files)) ≤ 2 ^ 31
few_pairs job skips size files few small =
    omega (arith, kept-room job skips (named_records size files), room-files size 0 0 files, few, small)

-- ---- pairs with names and without

abbrev pub pair_of : Triple → Emission
pair_of t = (t.key, t.value)

placed-pairs : (name : RecordName) (place : ℕ) (es : List Emission) → map pair_of (placed_from name place es) ≡ es
unfolding placed_from
placed-pairs name place [] = refl
placed-pairs name place (e ∷ es) = ap (λ l. e ∷ l) (placed-pairs name (place + 1) es)

record-pairs : (job : JobSpec) (skips : List RecordName) (r : NamedRecord) → map pair_of (record_triples job skips r) ≡ kept_pairs job skips r
record-pairs job skips r =
    let es : List Emission = emissions job r.file r.start r.bytes in
    elim (is_left_out skips r.name) as (λ t. map pair_of (cond t [] (placed_from r.name 0 es)) ≡ cond t [] es) [
      | true ↦ refl
      | false ↦ placed-pairs r.name 0 es
    ]

all-pairs : (job : JobSpec) (skips : List RecordName) (rs : List NamedRecord) → map pair_of (flat_map (record_triples job skips) rs) ≡ flat_map (kept_pairs job skips) rs
all-pairs job skips [] = refl
all-pairs job skips (r ∷ rs) =
    map-append pair_of (record_triples job skips r) (flat_map (record_triples job skips) rs)
    ∙ ap (λ l. l ++ map pair_of (flat_map (record_triples job skips) rs)) (record-pairs job skips r)
    ∙ ap (λ l. kept_pairs job skips r ++ l) (all-pairs job skips rs)

pub triple-count : (job : JobSpec) (skips : List RecordName) (rs : List NamedRecord)
    → length (flat_map (kept_pairs job skips) rs) ≡ length (flat_map (record_triples job skips) rs)
triple-count job skips rs = ap length (sym (all-pairs job skips rs)) ∙ length-map (flat_map (record_triples job skips) rs) pair_of

pub emitted-count : (request : RequestSpec) (files : List (List ℕ)) (skips : List RecordName)
    → length (flat_map (kept_pairs request.job skips) (named_records request.split files)) ≡ length (emitted request.job request.split files skips)
emitted-count request files skips = triple-count request.job skips (named_records request.split files)
