-- Spots of left-out records, one for each name.
use Rattle.std.proofs.Common.{◌≡◌, ℕ, ◌<◌, cond, eqb, List, [], ◌∷◌, filter, length, map, refl, sym, ◌∙◌, ap, arith, true, false, inl, inr, Bool, Option, None, Some, IsTrue}
use Rattle.std.proofs.lemmas.Bool.{and_from, cases_lt, eq-eqb, false≢true, le-ltb}
use Rattle.std.specs.List.{AllByRecursion}
use Rattle.std.specs.Option.{option_map}
use Rattle.mr_bytes.specs.declared.RecordName.{RecordName}
use Rattle.mr_bytes.specs.Lists.{Rises}
use Rattle.mr_bytes.specs.Order.{record_order}
use Rattle.mr_splits.specs.Cut.{has_record_name, is_record, record_named}
use Rattle.mr_splits.specs.Named.{NamedRecord, is_left_out, named_records, of_split}
use Rattle.mr_splits.proofs.NameLemmas.{is_record-is, none-past}
use Rattle.mr_input.specs.Files.{split_total}
use Rattle.mr_shards.specs.Spots.{SkipsExist, Spot, spot_of, spots_of}
use Rattle.mr_shards.proofs.SpotLaws.{left_out-names}
use Rattle.mr_shards.proofs.SpotLemmas.{Apart, map-of, map-on, names-apart, same_name}

-- where the record begins that is found
abbrev or_nowhere : Option NamedRecord → Spot
or_nowhere None = record { file = 0; start = 0 }
or_nowhere (Some r) = spot_of r

-- where the record of that name begins
abbrev pub spot_named : List NamedRecord → RecordName → Spot
spot_named rs name = or_nowhere (record_named rs name)

pub spot-found : (rs : List NamedRecord) (name : RecordName) (s : Spot) → option_map spot_of (record_named rs name) ≡ Some s → s ≡ spot_named rs name
spot-found rs name s = by (record_named rs name)
  where
    by : (o : Option NamedRecord) → option_map spot_of o ≡ Some s → s ≡ or_nowhere o
    by None e = absurd (cc e)
    by (Some r) e = cc e

-- a record of several with different names is found by its name
found-by-name : (rs : List NamedRecord) → Apart same_name rs → AllByRecursion (λ (r : NamedRecord). spot_named rs r.name ≡ spot_of r) rs
found-by-name [] apart = tt
found-by-name (r ∷ rs) apart = (here, later rs apart.0 (found-by-name rs apart.1))
  where
    here : or_nowhere (cond (has_record_name r.name r) (Some r) (record_named rs r.name)) ≡ spot_of r
    here =
        ap (λ b. or_nowhere (cond b (Some r) (record_named rs r.name)))
        (and_from (eqb r.name.split r.name.split) (eqb r.name.rec r.name.rec) (eq-eqb r.name.split r.name.split refl) (eq-eqb r.name.rec r.name.rec refl))

    later : (xs : List NamedRecord) → AllByRecursion (λ x. (same_name r x ≡ false) × (same_name x r ≡ false)) xs → AllByRecursion (λ (x : NamedRecord). spot_named rs x.name ≡ spot_of x) xs
        → AllByRecursion (λ (x : NamedRecord). spot_named (r ∷ rs) x.name ≡ spot_of x) xs
    later [] other found = tt
    later (x ∷ xs) other found = (ap (λ b. or_nowhere (cond b (Some r) (record_named rs x.name))) other.0.0 ∙ found.0, later xs other.1 found.1)

all-filter : {X : Type 0} (P : X → Type 0) (q : X → Bool) (xs : List X) → AllByRecursion P xs → AllByRecursion P (filter q xs)
all-filter P q [] all = tt
all-filter P q (x ∷ xs) all = by (q x) (all-filter P q xs all.1)
  where
    by : (b : Bool) → AllByRecursion P (filter q xs) → AllByRecursion P (cond b (x ∷ filter q xs) (filter q xs))
    by true rest = (all.0, rest)
    by false rest = rest

-- where names rise and exist, the spots are those of the records of the names, in their order
pub spots-named : (size : ℕ) (files : List (List ℕ)) (skips : List RecordName) → 0 < size → Rises record_order skips → SkipsExist size files skips
    → map (spot_named (named_records size files)) skips ≡ spots_of size files skips
spots-named size files skips some rises exist =
    let rs : List NamedRecord = named_records size files in
    let q : NamedRecord → Bool = λ (r : NamedRecord). is_left_out skips r.name in
    ap (map (spot_named rs)) (sym (left_out-names size files skips some rises exist))
    ∙ map-of (spot_named rs) (λ (r : NamedRecord). r.name) (filter q rs)
    ∙ map-on (λ (r : NamedRecord). spot_named rs r.name) spot_of (filter q rs)
    (all-filter (λ (r : NamedRecord). spot_named rs r.name ≡ spot_of r) q rs (found-by-name rs (names-apart size files some)))

none-left-out : (rs : List NamedRecord) → filter (λ (r : NamedRecord). is_left_out [] r.name) rs ≡ []
none-left-out [] = refl
none-left-out (r ∷ rs) = none-left-out rs

pub no-spots : (size : ℕ) (files : List (List ℕ)) (skips : List RecordName) → skips ≡ [] → [] ≡ spots_of size files skips
no-spots size files skips none = sym (ap (spots_of size files) none ∙ ap (map spot_of) (none-left-out (named_records size files)))

-- ---- where the record of a name is found

pub name-within : (size : ℕ) (files : List (List ℕ)) (name : RecordName) → 0 < size → IsTrue (is_record (named_records size files) name)
    → name.rec < length (of_split name.split (named_records size files))
name-within size files name some exists =
    elim (cases_lt name.rec (length (of_split name.split (named_records size files)))) [
      | inl less ↦ less
      | inr past ↦ absurd (false≢true (sym (le-ltb name.rec (length (of_split name.split (named_records size files))) past) ∙ sym (is_record-is size files name some) ∙ exists))
    ]

pub split-within : (size : ℕ) (files : List (List ℕ)) (name : RecordName) → 0 < size → IsTrue (is_record (named_records size files) name) → name.split < split_total size files
split-within size files name some exists =
    elim (cases_lt name.split (split_total size files)) [
      | inl less ↦ less
      | inr past ↦
          let none : length (of_split name.split (named_records size files)) ≡ 0 = ap length (none-past size files name.split some past) in
          absurd (omega (arith, none, name-within size files name some exists))
    ]
