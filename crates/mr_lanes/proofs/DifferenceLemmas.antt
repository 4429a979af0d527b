-- How two texts are compared from a place on.
use Rattle.std.proofs.Common.{◌≡◌, ℕ, zero, suc, ◌+◌, ◌<◌, ◌≤◌, ◌^◌, ◌%◌, true, false, not, cond, eqb, inl, inr, List, [], ◌∷◌, Option, None, Some, length, get_or, drop, map, refl, sym, ap, ◌∙◌, arith, w8}
use Rattle.std.proofs.lemmas.Bool.{ne_eqb, eq-eqb, eqb-true, cases_Bool, true≢false}
use Rattle.std.proofs.lemmas.List.{at_drop_more, at_drop_all}
use Rattle.std.proofs.lemmas.Simd.{tops_compared, get_or-zip2}
use lib.Lanes.{zip2, mask_l, top}
use Rattle.mr_lanes.specs.Bits.{is_set}
use Rattle.mr_lanes.specs.Difference.{first_difference_from}
use Rattle.mr_lanes.proofs.BitLemmas.{is_set-mod, is_set-mask_l}

-- the mask of two vectors' differing lanes
pub apart_bits : (a b : List ℕ) (i : ℕ) → length a ≡ 64 → length b ≡ 64 → i < 64
    → is_set (mask_l (map (top 7) (zip2 (λ x y. cond (not (eqb x y)) 255 0) a b)) % 2 ^ 64) i ≡ not (eqb (get_or a i 0) (get_or b i 0))
apart_bits a b i p q h =
    is_set-mod _ i h ∙ is_set-mask_l (map (top 7) (zip2 (λ x y. cond (not (eqb x y)) 255 0) a b)) i
    ∙ ap (λ l. get_or l i false) (tops_compared w8 (λ x y. not (eqb x y)) a b)
    ∙ get_or-zip2 (λ x y. not (eqb x y)) a b i 0 0 false (omega (arith, p, h)) (omega (arith, q, h))

abbrev pub parted : List ℕ → List ℕ → ℕ → Option ℕ
parted a b at = first_difference_from at (drop at a) (drop at b)

pub cons_cons : (at x y : ℕ) (xs ys : List ℕ) → first_difference_from at (x ∷ xs) (y ∷ ys) ≡ cond (eqb x y) (first_difference_from (at + 1) xs ys) (Some at)
unfolding first_difference_from
cons_cons at x y xs ys = refl

pub nil_nil : (at : ℕ) → first_difference_from at [] [] ≡ None
unfolding first_difference_from
nil_nil at = refl

pub nil_cons : (at y : ℕ) (ys : List ℕ) → first_difference_from at [] (y ∷ ys) ≡ Some at
unfolding first_difference_from
nil_cons at y ys = refl

pub cons_nil : (at x : ℕ) (xs : List ℕ) → first_difference_from at (x ∷ xs) [] ≡ Some at
unfolding first_difference_from
cons_nil at x xs = refl

both : (a b : List ℕ) (at : ℕ) → at < length a → at < length b → parted a b at ≡ cond (eqb (get_or a at 0) (get_or b at 0)) (parted a b (at + 1)) (Some at)
both a b at h k =
    at_drop_more (λ l. first_difference_from at l (drop at b)) a at 0 h
    ∙ at_drop_more (λ l. first_difference_from at (get_or a at 0 ∷ drop (at + 1) a) l) b at 0 k
    ∙ cons_cons at (get_or a at 0) (get_or b at 0) (drop (at + 1) a) (drop (at + 1) b)

pub same_more : (a b : List ℕ) (at : ℕ) → at < length a → at < length b → get_or a at 0 ≡ get_or b at 0 → parted a b at ≡ parted a b (at + 1)
same_more a b at h k e = both a b at h k ∙ ap (λ t. cond t (parted a b (at + 1)) (Some at)) (eq-eqb (get_or a at 0) (get_or b at 0) e)

pub same_run : (n : ℕ) (a b : List ℕ) (at to : ℕ) → at + n ≡ to → to ≤ length a → to ≤ length b → ((k : ℕ) → at ≤ k → k < to → get_or a k 0 ≡ get_or b k 0) → parted a b at ≡ parted a b to
same_run zero a b at to e h k same = ap (parted a b) (let s : at ≡ to = omega (arith, e) in s)
same_run (suc n) a b at to e h k same =
    same_more a b at (omega (arith, e, h)) (omega (arith, e, k)) (same at (omega arith) (omega (arith, e)))
    ∙ same_run n a b (at + 1) to (omega (arith, e)) h k (λ j low. same j (omega (arith, low)))

pub parts_here : (a b : List ℕ) (at : ℕ) → at < length a → at < length b → (get_or a at 0 ≡ get_or b at 0 → ⊥) → parted a b at ≡ Some at
parts_here a b at h k ne = both a b at h k ∙ ap (λ t. cond t (parted a b (at + 1)) (Some at)) (ne_eqb (get_or a at 0) (get_or b at 0) ne)

pub both_ended : (a b : List ℕ) (at : ℕ) → length a ≤ at → length b ≤ at → parted a b at ≡ None
both_ended a b at h k = at_drop_all (λ l. first_difference_from at l (drop at b)) a at h ∙ at_drop_all (λ l. first_difference_from at [] l) b at k ∙ nil_nil at

pub first_ended : (a b : List ℕ) (at : ℕ) → length a ≤ at → at < length b → parted a b at ≡ Some at
first_ended a b at h k =
    at_drop_all (λ l. first_difference_from at l (drop at b)) a at h ∙ at_drop_more (λ l. first_difference_from at [] l) b at 0 k ∙ nil_cons at (get_or b at 0) (drop (at + 1) b)

pub second_ended : (a b : List ℕ) (at : ℕ) → at < length a → length b ≤ at → parted a b at ≡ Some at
second_ended a b at h k =
    at_drop_all (λ l. first_difference_from at (drop at a) l) b at k ∙ at_drop_more (λ l. first_difference_from at l []) a at 0 h ∙ cons_nil at (get_or a at 0) (drop (at + 1) a)

-- what a bit of the mask says
pub differs : (x y : ℕ) → not (eqb x y) ≡ true → x ≡ y → ⊥
differs x y h e = true≢false (sym h ∙ ap not (eq-eqb x y e))

pub agrees : (x y : ℕ) → not (eqb x y) ≡ false → x ≡ y
agrees x y h = elim (cases_Bool (eqb x y)) [
  | inl e ↦ eqb-true x y e
  | inr ne ↦ absurd (true≢false (sym (ap not ne) ∙ h))
]
