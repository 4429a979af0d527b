-- How many there are, and how these numbers grow.
use Rattle.std.proofs.Common.{◌≡◌, ℕ, ◌+◌, ◌-◌, ◌≤◌, ◌==◌, List, ◌++◌, Bool, count_by, length, take, drop, slice_range, filter, ap, sym, ◌∙◌, arith, length-append}
use Rattle.std.proofs.lemmas.List.Sums.{length-filter, count_by-le-length}
use Rattle.std.proofs.lemmas.List.Elements.{filter-append}
use Rattle.std.proofs.Math.Seq.{take-add}
use Rattle.std.specs.Str.{bytes_eq}
use Rattle.mr_jobs.specs.Emissions.{Emission}
use Rattle.std.proofs.Common.{not}
use Rattle.mr_bytes.specs.declared.RecordName.{RecordName}
use Rattle.mr_jobs.specs.JobSpec.{JobSpec}
use Rattle.mr_splits.specs.Named.{NamedRecord, is_left_out}
use Rattle.mr_splits.specs.Kept.{kept_records}
use Rattle.mr_explain.specs.declared.query.Wanted.{Wanted}
use Rattle.mr_explain.specs.Explained.{evidence, feeds_before, is_wanted, pairs_of, pairs_with}

pub count_by-append : {X : Type 0} (p : X → Bool) (xs ys : List X) → count_by p (xs ++ ys) ≡ count_by p xs + count_by p ys
count_by-append p xs ys =
    omega (
      arith,
      length-filter p (xs ++ ys),
      length-filter p xs,
      length-filter p ys,
      ap length (filter-append p xs ys),
      length-append (filter p xs) (filter p ys),
    )

-- the line feeds before a place, and those up to a later one
pub feeds-more : (file : List ℕ) (at place feeds more : ℕ) → at ≤ place → feeds ≡ feeds_before file at
    → more ≡ count_by (λ b. b == 10) (slice_range file at place) → feeds + more ≡ feeds_before file place
feeds-more file at place feeds more low is is_more =
    let sum : at + (place - at) ≡ place = omega (arith, low) in
    omega (
      arith,
      is,
      is_more,
      count_by-append (λ (b : ℕ). b == 10) (take at file) (take (place - at) (drop at file)),
      ap (count_by (λ (b : ℕ). b == 10)) (sym (take-add at (place - at) file) ∙ ap (λ n. take n file) sum),
    )

pub few-with : (key : List ℕ) (es : List Emission) → length (pairs_with key es) ≤ length es
few-with key es = omega (arith, length-filter (λ (e : Emission). bytes_eq e.0 key) es, count_by-le-length (λ (e : Emission). bytes_eq e.0 key) es)

pub few-kept : (skips : List RecordName) (rs : List NamedRecord) → length (kept_records skips rs) ≤ length rs
few-kept skips rs =
    let keep : NamedRecord → Bool = λ r. not (is_left_out skips r.name) in
    omega (arith, length-filter keep rs, count_by-le-length keep rs)

pub few-evidence : (job : JobSpec) (wanted : Wanted) (rs : List NamedRecord) → length (evidence job wanted rs) ≤ length rs
few-evidence job wanted rs =
    let is : NamedRecord → Bool = λ r. is_wanted wanted (pairs_of job r) in
    omega (arith, length-filter is rs, count_by-le-length is rs)
