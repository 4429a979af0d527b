-- How many records there can be: no more than the files have bytes.
use Rattle.std.proofs.Common.{ℕ, suc, ◌+◌, ◌/◌, ◌≡◌, ◌≤◌, cond, true, false, List, [], ◌∷◌, length, refl, ap, arith, eqb, length-append}
use Rattle.std.proofs.lemmas.List.Sums.{sum_by-cons}
use Rattle.mr_records.specs.Records.{Record, lengthen, records_from, records}
use Rattle.mr_input.specs.Files.{split_count, total_size}
use Rattle.mr_splits.specs.Named.{named_from, named_files, named_records}

few-lengthen : (at b n : ℕ) (rs : List Record) → length rs ≤ n → length (lengthen at b rs) ≤ n + 1
unfolding lengthen
few-lengthen at b n [] h = omega arith
few-lengthen at b n (r ∷ rs) h = omega (arith, h)

few-here : (at : ℕ) (bs : List ℕ) → length (records_from at bs) ≤ length bs
unfolding records_from
few-here at [] = omega arith
few-here at (b ∷ bs) =
    let rest : List Record = records_from (at + 1) bs in
    let later : length rest ≤ length bs = few-here (at + 1) bs in
    let longer : length (lengthen at b rest) ≤ length bs + 1 = few-lengthen at b (length bs) rest later in
    elim (eqb b 10) as (λ t. length (cond t (record { start = at; bytes = [] } ∷ rest) (lengthen at b rest)) ≤ length (b ∷ bs)) [
      | true ↦ omega (arith, later)
      | false ↦ omega (arith, longer)
    ]

length-named : (size file first split next : ℕ) (rs : List Record) → length (named_from size file first split next rs) ≡ length rs
unfolding named_from
length-named size file first split next [] = refl
length-named size file first split next (r ∷ rs) =
    ap suc (length-named size file first (first + r.start / size) (cond (eqb (first + r.start / size) split) next 0 + 1) rs)

few-files : (size file first : ℕ) (files : List (List ℕ)) → length (named_files size file first files) ≤ total_size files
unfolding named_files
few-files size file first [] = omega arith
few-files size file first (f ∷ fs) =
    omega (
      arith,
      length-append (named_from size file first first 0 (records f)) (named_files size (file + 1) (first + split_count size f) fs),
      length-named size file first first 0 (records f),
      few-files size (file + 1) (first + split_count size f) fs,
      few-here 0 f,
      sum_by-cons (length {A = ℕ}) f fs,
    )

pub few-records : (size : ℕ) (files : List (List ℕ)) → length (named_records size files) ≤ total_size files
few-records size files = few-files size 0 0 files
