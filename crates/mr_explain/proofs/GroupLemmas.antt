-- The values that records give for a key are those of its group.
use Rattle.std.proofs.Common.{◌≡◌, ℕ, ◌+◌, ◌<◌, cond, not, Bool, true, false, List, [], ◌∷◌, ◌++◌, length, map, sum_by, refl, sym, ap, ◌∙◌, subst, arith, length-append}
use Rattle.std.proofs.lemmas.List.{map-append, length-map}
use Rattle.std.proofs.lemmas.List.Elements.{All-filter, filter-append}
use Rattle.std.proofs.lemmas.List.Sums.{sum_by-cons}
use Rattle.std.specs.List.{flat_map}
use Rattle.std.specs.Str.{bytes_eq}
use Rattle.mr_bytes.specs.declared.Name.{Name}
use Rattle.mr_bytes.specs.declared.RecordName.{RecordName}
use Rattle.mr_bytes.specs.declared.Value.{Value}
use Rattle.mr_bytes.specs.Pairs.{Triple}
use Rattle.mr_jobs.specs.JobSpec.{JobSpec}
use Rattle.mr_jobs.specs.Emissions.{Emission, emissions}
use Rattle.mr_reduce.specs.Files.{NeverFalls}
use Rattle.mr_splits.specs.Named.{NamedRecord, is_left_out}
use Rattle.mr_splits.specs.Cut.{records_of}
use Rattle.mr_splits.specs.Kept.{Choice, kept_records}
use Rattle.mr_sequential.specs.Emitted.{placed_from, record_triples}
use Rattle.mr_sequential.specs.Names.{triples_of, value_under}
use Rattle.mr_sequential.specs.Sequential.{triples_with, values_of}
use Rattle.mr_sequential.proofs.FileOrder.{key-rises}
use Rattle.mr_sequential.proofs.ValueLemmas.{told-each, told-values}
use Rattle.mr_explain.specs.Explained.{pairs_of, pairs_with}
use Rattle.mr_explain.specs.Group.{values_in, values_with}

-- a record's values for the key
placed-values : (key : List ℕ) (name : RecordName) (place : ℕ) (es : List Emission)
    → values_with key es ≡ values_of (placed_from name place es) key
unfolding placed_from
placed-values key name place [] = refl
placed-values key name place (e ∷ es) =
    by (bytes_eq e.0 key) (placed-values key name (place + 1) es)
  where
    rest : List Triple
    rest = placed_from name (place + 1) es

    first : Triple
    first = record { key = e.0; value = e.1; name = record { split = name.split; rec = name.rec; place = place } }

    by : (t : Bool) → values_with key es ≡ values_of rest key
        → map (λ (x : Emission). x.1) (cond t (e ∷ pairs_with key es) (pairs_with key es)) ≡ map (λ (x : Triple). x.value) (cond t (first ∷ triples_with rest key) (triples_with rest key))
    by true later = ap (λ (l : List Value). e.1 ∷ l) later
    by false later = later

pub values_are : (job : JobSpec) (key : List ℕ) (skips : List RecordName) (rs : List NamedRecord)
    → values_in job key (kept_records skips rs) ≡ values_of (flat_map (record_triples job skips) rs) key
values_are job key skips [] = refl
values_are job key skips (r ∷ rs) = by (is_left_out skips r.name) (values_are job key skips rs)
  where
    es : List Emission
    es = emissions job r.file r.start r.bytes

    later : List Triple
    later = flat_map (record_triples job skips) rs

    joined : (ts : List Triple) → values_of ts key ++ values_of later key ≡ values_of (ts ++ later) key
    joined ts =
        sym (ap (map (λ (t : Triple). t.value)) (filter-append (λ (t : Triple). bytes_eq t.key key) ts later)
        ∙ map-append (λ (t : Triple). t.value) (triples_with ts key) (triples_with later key))

    by : (t : Bool) → values_in job key (kept_records skips rs) ≡ values_of later key
        → values_in job key (cond (not t) (r ∷ kept_records skips rs) (kept_records skips rs)) ≡ values_of (cond t [] (placed_from r.name 0 es) ++ later) key
    by true h = h
    by false h =
        ap (λ (l : List Value). l ++ values_in job key (kept_records skips rs)) (placed-values key r.name 0 es)
        ∙ ap (λ (l : List Value). values_of (placed_from r.name 0 es) key ++ l) h
        ∙ joined (placed_from r.name 0 es)

-- how many there are
pub count-values : (job : JobSpec) (key : List ℕ) (rs : List NamedRecord)
    → sum_by (λ (r : NamedRecord). length (pairs_with key (pairs_of job r))) rs ≡ length (values_in job key rs)
count-values job key [] = refl
count-values job key (r ∷ rs) =
    omega (
      arith,
      sum_by-cons (λ (x : NamedRecord). length (pairs_with key (pairs_of job x))) r rs,
      count-values job key rs,
      length-append (values_with key (pairs_of job r)) (values_in job key rs),
      length-map (pairs_with key (pairs_of job r)) (λ (e : Emission). e.1),
    )

-- their files never fall
pub values_rise : (job : JobSpec) (choice : Choice) (key : List ℕ) → 0 < choice.cut.size → NeverFalls (values_of (triples_of job choice) key)
values_rise job choice key some =
    let ts : List Triple = triples_of job choice in
    let value : Name → Value = value_under job (records_of choice.cut) in
    subst NeverFalls
    (told-values value (triples_with ts key)
    (All-filter (λ (t : Triple). bytes_eq t.key key) (λ (t : Triple). value t.name ≡ t.value) ts (told-each job choice.cut.size choice.cut.files choice.skips some)))
    (key-rises job choice key some)
