-- A name tells its pair's record, and so its value.
use Rattle.std.proofs.Common.{◌≡◌, ℕ, zero, suc, ◌+◌, ◌<◌, cond, not, true, false, List, [], ◌∷◌, ◌++◌, length, get_or, refl, sym, ◌∙◌, ap, subst, arith, inl, inr, map, eqb, All}
use Rattle.std.proofs.lemmas.Bool.{cases_lt, eq-eqb}
use Rattle.std.proofs.lemmas.List.{get_or-map, get_or_default, map-append}
use Rattle.std.proofs.lemmas.List.Elements.{All-nil, All-cons, All-head, All-tail, All-append, All-filter}
use Rattle.std.proofs.lemmas.List.FromFn.{get_or-range_with_len}
use Rattle.std.specs.List.{flat_map, zip}
use Rattle.mr_bytes.specs.declared.RecordName.{RecordName}
use Rattle.mr_bytes.specs.declared.Value.{Value}
use Rattle.mr_bytes.specs.Lists.{Has}
use Rattle.mr_bytes.specs.Pairs.{Triple}
use Rattle.mr_bytes.proofs.ListLaws.{Has-filter}
use Rattle.mr_input.specs.Files.{split_total}
use Rattle.mr_jobs.specs.JobSpec.{JobSpec}
use Rattle.mr_jobs.specs.Emissions.{Emission, emissions, value_at}
use Rattle.mr_jobs.proofs.CountLemmas.{one_value_each}
use Rattle.mr_splits.specs.Named.{NamedRecord, is_left_out, named_records, of_split}
use Rattle.mr_splits.specs.Cut.{Cut, nth_named, records_of}
use Rattle.mr_splits.specs.Kept.{kept_records}
use Rattle.mr_splits.proofs.NameLemmas.{none-past}
use Rattle.mr_splits.proofs.NumberLemmas.{numbers-count}
use Rattle.mr_sequential.specs.Emitted.{emitted, placed_from, record_triples}
use Rattle.mr_certform.specs.Packed.{names_from}
use Rattle.mr_sequential.specs.Names.{IsOfRecord, record_names, value_under}
use Rattle.mr_bytes.specs.declared.Name.{Name}
use Rattle.mr_group.proofs.ListLemmas.{Has-at, Has-Contains}
use Rattle.mr_sequential.proofs.SourceLemmas.{kept-names, pair_of}

-- the record of that name is this one
pub record IsFound (size : ℕ) (files : List (List ℕ)) (r : NamedRecord) : Type 0 where
  pub split : r.name.split < split_total size files
  pub number : r.name.rec < length (of_split r.name.split (named_records size files))
  pub found : nth_named (of_split r.name.split (named_records size files)) r.name.rec ≡ r

no_record : NamedRecord
no_record = record { name = record { split = 0; rec = 0 }; file = 0; start = 0; bytes = [] }

pub each-found : (size : ℕ) (files : List (List ℕ)) (r : NamedRecord) → 0 < size → Has (named_records size files) r → IsFound size files r
unfolding no_record
each-found size files r some h =
    let s : ℕ = r.name.split in
    let rs : List NamedRecord = of_split s (named_records size files) in
    let in_split : Has rs r = Has-filter (λ (x : NamedRecord). eqb x.name.split s) (named_records size files) r h (eq-eqb s s refl) in
    let at = Has-Contains rs r in_split in
    let i : ℕ = at.0 in
    let here : nth_named rs i ≡ r = get_or_default rs i no_record r at.1 ∙ at.2 in
    let number : i ≡ r.name.rec =
    let zero_i : 0 + i ≡ i = omega arith in
    sym (sym (get_or-map (λ (x : NamedRecord). x.name.rec) rs i no_record 0 at.1)
    ∙ ap (λ (l : List ℕ). get_or l i 0) (numbers-count size files s some) ∙ get_or-range_with_len 0 (length rs) i 0 at.1 ∙ zero_i)
    ∙ ap (λ (x : NamedRecord). x.name.rec) here in
    record {
      split = elim (cases_lt s (split_total size files)) [
        | inl low ↦ low
        | inr past ↦ absurd (omega (arith, at.1, ap length (none-past size files s some past)))
      ];
      number = subst (λ n. n < length rs) number at.1;
      found = subst (λ n. nth_named rs n ≡ r) number here;
    }

-- all of them
pub all-found : (size : ℕ) (files : List (List ℕ)) → 0 < size → All (IsFound size files) (named_records size files)
all-found size files some = λ k d h. each-found size files (get_or (named_records size files) k d) some (Has-at (named_records size files) k d h)

-- ---- the names of records' pairs are names of records

from-named : (cut : Cut) (r : NamedRecord) (place count : ℕ) → IsFound cut.size cut.files r → All (IsOfRecord cut) (names_from r.name place count)
unfolding names_from
from-named cut r place zero f = All-nil (IsOfRecord cut)
from-named cut r place (suc count) f =
    All-cons (IsOfRecord cut) (record { split = r.name.split; rec = r.name.rec; place = place }) (names_from r.name (place + 1) count)
    (f.split, f.number) (from-named cut r (place + 1) count f)

records-named : (job : JobSpec) (cut : Cut) (rs : List NamedRecord) → All (IsFound cut.size cut.files) rs → All (IsOfRecord cut) (flat_map (record_names job) rs)
records-named job cut [] all = All-nil (IsOfRecord cut)
records-named job cut (r ∷ rs) all =
    All-append (IsOfRecord cut) (record_names job r) (flat_map (record_names job) rs)
    (from-named cut r 0 (length (emissions job r.file r.start r.bytes)) (All-head (IsFound cut.size cut.files) r rs all))
    (records-named job cut rs (All-tail (IsFound cut.size cut.files) r rs all))

pub names-named : (job : JobSpec) (cut : Cut) (skips : List RecordName) → 0 < cut.size
    → All (IsOfRecord cut) (map (λ (t : Triple). t.name) (emitted job cut.size cut.files skips))
names-named job cut skips some =
    subst (All (IsOfRecord cut)) (kept-names job skips (records_of cut))
    (records-named job cut (kept_records skips (records_of cut))
    (All-filter (λ r. not (is_left_out skips r.name)) (IsFound cut.size cut.files) (records_of cut) (all-found cut.size cut.files some)))

-- ---- each triple has the value that its name tells

module _ (job : JobSpec) (all : List NamedRecord) where
  told : Triple → Value
  told t = value_under job all t.name

  placed-told : (r : NamedRecord) (place : ℕ) (es : List Emission) → nth_named (of_split r.name.split all) r.name.rec ≡ r
      → All (λ (e : Emission). e.1 ≡ value_at job r.file r.start) es
      → map told (placed_from r.name place es) ≡ map (λ (t : Triple). t.value) (placed_from r.name place es)
  unfolding told placed_from
  placed-told r place [] found one = refl
  placed-told r place (e ∷ es) found one =
      let here : value_at job (nth_named (of_split r.name.split all) r.name.rec).file (nth_named (of_split r.name.split all) r.name.rec).start ≡ e.1 =
      ap (λ (x : NamedRecord). value_at job x.file x.start) found ∙ sym (All-head (λ (x : Emission). x.1 ≡ value_at job r.file r.start) e es one) in
      ap (λ v. v ∷ map told (placed_from r.name (place + 1) es)) here
      ∙ ap (λ l. e.1 ∷ l) (placed-told r (place + 1) es found (All-tail (λ (x : Emission). x.1 ≡ value_at job r.file r.start) e es one))

  record-told : (skips : List RecordName) (r : NamedRecord) → nth_named (of_split r.name.split all) r.name.rec ≡ r
      → map told (record_triples job skips r) ≡ map (λ (t : Triple). t.value) (record_triples job skips r)
  record-told skips r found =
      let es : List Emission = emissions job r.file r.start r.bytes in
      elim (is_left_out skips r.name) as (λ b. map told (cond b [] (placed_from r.name 0 es)) ≡ map (λ (t : Triple). t.value) (cond b [] (placed_from r.name 0 es))) [
        | true ↦ refl
        | false ↦ placed-told r 0 es found (one_value_each job r.file r.start r.bytes)
      ]

  records-told : (skips : List RecordName) (rs : List NamedRecord) → All (λ (r : NamedRecord). nth_named (of_split r.name.split all) r.name.rec ≡ r) rs
      → map told (flat_map (record_triples job skips) rs) ≡ map (λ (t : Triple). t.value) (flat_map (record_triples job skips) rs)
  records-told skips [] found = refl
  records-told skips (r ∷ rs) found =
      let here = record-told skips r (All-head (λ (x : NamedRecord). nth_named (of_split x.name.split all) x.name.rec ≡ x) r rs found) in
      let later = records-told skips rs (All-tail (λ (x : NamedRecord). nth_named (of_split x.name.split all) x.name.rec ≡ x) r rs found) in
      map-append told (record_triples job skips r) (flat_map (record_triples job skips) rs)
      ∙ ap (λ l. l ++ map told (flat_map (record_triples job skips) rs)) here
      ∙ ap (λ l. map (λ (t : Triple). t.value) (record_triples job skips r) ++ l) later
      ∙ sym (map-append (λ (t : Triple). t.value) (record_triples job skips r) (flat_map (record_triples job skips) rs))

-- each triple has the value that its name tells
pub told-each : (job : JobSpec) (size : ℕ) (files : List (List ℕ)) (skips : List RecordName) → 0 < size
    → All (λ (t : Triple). value_under job (named_records size files) t.name ≡ t.value) (emitted job size files skips)
unfolding told
told-each job size files skips some k d h =
    let all : List NamedRecord = named_records size files in
    let ts : List Triple = emitted job size files skips in
    sym (get_or-map (told job all) ts k d d.value h)
    ∙ ap (λ (l : List Value). get_or l k d.value) (records-told job all skips all (λ i r less. (all-found size files some i r less).found))
    ∙ get_or-map (λ (t : Triple). t.value) ts k d d.value h

pub told-values : (f : Name → Value) (ts : List Triple) → All (λ (t : Triple). f t.name ≡ t.value) ts
    → map f (map (λ (t : Triple). t.name) ts) ≡ map (λ (t : Triple). t.value) ts
told-values f [] all = refl
told-values f (t ∷ ts) all =
    ap (λ (v : Value). v ∷ map f (map (λ (u : Triple). u.name) ts)) (All-head (λ (u : Triple). f u.name ≡ u.value) t ts all)
    ∙ ap (λ (l : List Value). t.value ∷ l) (told-values f ts (All-tail (λ (u : Triple). f u.name ≡ u.value) t ts all))

-- keys, and names with the values that they tell, are pairs
pub emitted-valued : (job : JobSpec) (size : ℕ) (files : List (List ℕ)) (skips : List RecordName) → 0 < size
    → zip (map (λ (t : Triple). t.key) (emitted job size files skips))
    (map (value_under job (named_records size files)) (map (λ (t : Triple). t.name) (emitted job size files skips)))
    ≡ map pair_of (emitted job size files skips)
emitted-valued job size files skips some =
    let ts : List Triple = emitted job size files skips in
    ap (zip (map (λ (t : Triple). t.key) ts)) (told-values (value_under job (named_records size files)) ts (told-each job size files skips some)) ∙ beside ts
  where
    beside : (us : List Triple) → zip (map (λ (t : Triple). t.key) us) (map (λ (t : Triple). t.value) us) ≡ map pair_of us
    beside [] = refl
    beside (u ∷ us) = ap (λ l. (u.key, u.value) ∷ l) (beside us)
