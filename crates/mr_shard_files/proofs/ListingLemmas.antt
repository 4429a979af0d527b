-- Where two texts differ first.
use Rattle.std.proofs.Common.{◌≡◌, ◌==◌, ◌≤◌, ◌+◌, ℕ, zero, suc, List, [], ◌∷◌, Option, None, Some, MatchOption, length, take, drop, refl, ap, sym, ◌∙◌, subst, cond, arith}
use Rattle.std.specs.Prelude.{count_by}
use Rattle.std.specs.List.{common_prefix_len}
use Rattle.std.proofs.lemmas.Bool.{eq-eqb, ne_eqb}
use Rattle.std.proofs.lemmas.List.Sums.{common_prefix_len-le}
use Rattle.mr_lanes.specs.Difference.{first_difference}
use Rattle.mr_lanes.specs.Laws.{Part}
use Rattle.mr_lanes.proofs.LawLemmas.{agree_up_to_the_difference, no_difference_where_equal}
use Rattle.mr_shard_files.specs.Listing.{DifferIn}

-- bytes that agree up to a place where they part have so many in common
pub common-is : (at : ℕ) (a b : List ℕ) → take at a ≡ take at b → Part (drop at a) (drop at b) → common_prefix_len (λ x y. x == y) a b ≡ at
common-is zero [] [] same part = absurd part
common-is zero [] (y ∷ ys) same part = refl
common-is zero (x ∷ xs) [] same part = refl
common-is zero (x ∷ xs) (y ∷ ys) same part = ap (λ t. cond t (1 + common_prefix_len (λ x y. x == y) xs ys) 0) (ne_eqb x y part)
common-is (suc at) [] [] same part = absurd part
common-is (suc at) [] (y ∷ ys) same part = absurd (cc same)
common-is (suc at) (x ∷ xs) [] same part = absurd (cc same)
common-is (suc at) (x ∷ xs) (y ∷ ys) same part =
    let first : x ≡ y = cc same in
    let rest : take at xs ≡ take at ys = cc same in
    let more = common-is at xs ys rest part in
    let one : 1 + common_prefix_len (λ x y. x == y) xs ys ≡ suc at = omega (arith, more) in
    ap (λ t. cond t (1 + common_prefix_len (λ x y. x == y) xs ys) 0) (eq-eqb x y first) ∙ one

-- where a difference was found, and where none was
module _ (a b : List ℕ) where
  pub common-found : (at : ℕ) → first_difference a b ≡ Some at → common_prefix_len (λ x y. x == y) a b ≡ at
  common-found at e =
      let p = subst (λ (o : Option ℕ). MatchOption o (Unit {0}) (λ i. (take i a ≡ take i b) × Part (drop i a) (drop i b))) e (agree_up_to_the_difference a b) in
      common-is at a b p.0 p.1

  pub found-within : (at : ℕ) → first_difference a b ≡ Some at → at ≤ length a
  found-within at e = omega (arith, common-found at e, (common_prefix_len-le (λ x y. x == y) a b).0)

  pub found-differ : (at line : ℕ) → first_difference a b ≡ Some at → line ≡ count_by (λ c. c == 10) (take at a) → DifferIn a b line
  found-differ at line e is = (
    λ same. cc (sym e ∙ (no_difference_where_equal a b).1 same),
    is ∙ ap (λ k. count_by (λ c. c == 10) (take k a)) (sym (common-found at e)),
  )

  pub none-differ : first_difference a b ≡ None → a ≡ b
  none-differ e = (no_difference_where_equal a b).0 e
