-- Where the records of a file start, and the splits that have their starts.
use Rattle.std.proofs.Common.{◌≡◌, ℕ, ◌+◌, ◌-◌, ◌/◌, ◌<◌, ◌≤◌, true, false, cond, eqb, List, [], ◌∷◌, length, arith, subst}
use Rattle.std.proofs.lemmas.Nat.{le-div}
use Rattle.std.proofs.Math.Nat.{div-mul-le_self}
use Rattle.mr_records.specs.Records.{Record, lengthen, records_from, records}

-- records whose starts rise within bounds
abbrev pub StartsIn : ℕ → ℕ → List Record → Type 0
StartsIn low high [] = Unit {0}
StartsIn low high (r ∷ rs) = (low ≤ r.start) × (r.start < high) × StartsIn (r.start + 1) high rs

starts-lower : (low low' high : ℕ) (rs : List Record) → low ≤ low' → StartsIn low' high rs → StartsIn low high rs
starts-lower low low' high [] h s = tt
starts-lower low low' high (r ∷ rs) h s = (omega (arith, h, s.0), s.1, s.2)

starts-lengthen : (at b high : ℕ) (rs : List Record) → at < high → StartsIn (at + 1) high rs → StartsIn at high (lengthen at b rs)
unfolding lengthen
starts-lengthen at b high [] h s = (omega arith, h, tt)
starts-lengthen at b high (r ∷ rs) h s = (omega arith, h, starts-lower (at + 1) (r.start + 1) high rs (omega (arith, s.0)) s.2)

pub starts-records : (at : ℕ) (bs : List ℕ) → StartsIn at (at + length bs) (records_from at bs)
unfolding records_from
starts-records at [] = tt
starts-records at (b ∷ bs) =
    let high : at + 1 + length bs ≡ at + length (b ∷ bs) = omega arith in
    let later : StartsIn (at + 1) (at + length (b ∷ bs)) (records_from (at + 1) bs) =
    subst (λ n. StartsIn (at + 1) n (records_from (at + 1) bs)) high (starts-records (at + 1) bs) in
    elim (eqb b 10) as (λ t. StartsIn at (at + length (b ∷ bs)) (cond t (record { start = at; bytes = [] } ∷ records_from (at + 1) bs) (lengthen at b (records_from (at + 1) bs)))) [
      | true ↦ (omega arith, omega (arith, high), later)
      | false ↦ starts-lengthen at b (at + length (b ∷ bs)) (records_from (at + 1) bs) (omega (arith, high)) later
    ]

-- the records of a whole file
pub starts-file : (f : List ℕ) → StartsIn 0 (length f) (records f)
starts-file f =
    subst (λ n. StartsIn 0 n (records f)) (let e : 0 + length f ≡ length f = omega arith in e) (starts-records 0 f)

pub div-rises : (size a b : ℕ) → 0 < size → a ≤ b → a / size ≤ b / size
div-rises size a b some h = le-div (a / size) b size some (omega (arith, div-mul-le_self a size, h))

pub div-within : (size a n : ℕ) → 0 < size → a < n → a / size < (n + size - 1) / size
div-within size a n some h =
    let k : a / size + 1 ≤ (n + size - 1) / size =
    le-div (a / size + 1) (n + size - 1) size some (omega (arith, div-mul-le_self a size, h, some)) in
    omega (arith, k)
