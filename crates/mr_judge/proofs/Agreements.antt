-- How far two texts agree, by the place where they part.
use Rattle.std.proofs.Common.{◌≡◌, ℕ, ◌+◌, true, false, cond, List, [], ◌∷◌, length, ◌∙◌, ap, arith, Some}
use Rattle.std.specs.Prelude.{nat_eq}
use Rattle.std.specs.Option.{unwrap_or}
use Rattle.std.specs.List.{common_prefix_len}
use Rattle.mr_lanes.specs.Difference.{first_difference_from}

pub agrees : (at : ℕ) (a b : List ℕ) → unwrap_or (first_difference_from at a b) (at + length a) ≡ at + common_prefix_len nat_eq a b
unfolding first_difference_from
agrees at [] [] = omega arith
agrees at [] (y ∷ ys) = omega arith
agrees at (x ∷ xs) [] = omega arith
agrees at (x ∷ xs) (y ∷ ys) = by (nat_eq x y) (agrees (at + 1) xs ys)
  where
    by : (t : _) → unwrap_or (first_difference_from (at + 1) xs ys) (at + 1 + length xs) ≡ at + 1 + common_prefix_len nat_eq xs ys
        → unwrap_or (cond t (first_difference_from (at + 1) xs ys) (Some at)) (at + length (x ∷ xs)) ≡ at + cond t (1 + common_prefix_len nat_eq xs ys) 0
    by true h = ap (unwrap_or (first_difference_from (at + 1) xs ys)) (let e : at + length (x ∷ xs) ≡ at + 1 + length xs = omega arith in e) ∙ h ∙ (let e : at + 1 + common_prefix_len nat_eq xs ys ≡ at + (1 + common_prefix_len nat_eq xs ys) = omega arith in e)
    by false h = omega arith

pub agreement-is : (a b : List ℕ) → unwrap_or (first_difference_from 0 a b) (length a) ≡ common_prefix_len nat_eq a b
agreement-is a b =
    ap (unwrap_or (first_difference_from 0 a b)) (let e : length a ≡ 0 + length a = omega arith in e)
    ∙ agrees 0 a b
    ∙ (let e : 0 + common_prefix_len nat_eq a b ≡ common_prefix_len nat_eq a b = omega arith in e)
