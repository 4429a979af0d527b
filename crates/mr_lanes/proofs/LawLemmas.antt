-- What the definitions of line ends and of differences mean.
use Rattle.std.proofs.Common.{◌≡◌, ℕ, zero, suc, ◌+◌, ◌<◌, cond, List, [], ◌∷◌, Option, None, Some, length, get_or, take, drop, refl, sym, ap, ◌∙◌, subst, arith, inl, inr, MatchOption}
use Rattle.std.proofs.lemmas.Bool.{cases_eq, ne_eqb, eq-eqb}
use Rattle.std.proofs.lemmas.Option.{MatchOption-at_none}
use Rattle.mr_bytes.specs.Lists.{Has}
use Rattle.mr_lanes.specs.Lines.{line_ends_from}
use Rattle.mr_lanes.specs.Difference.{first_difference_from}
use Rattle.mr_lanes.specs.Laws.{LineEndsAreLineFeeds, LineEndsRise, RisesFrom, NoDifferenceWhereEqual, AgreeUpToTheDifference, Part}
use Rattle.mr_lanes.proofs.LineLemmas.{line_ends_from-nil, line_ends_from-cons}
use Rattle.mr_lanes.proofs.DifferenceLemmas.{cons_cons, nil_nil, nil_cons, cons_nil}

-- what holds of the line ends of some bytes, by their first byte
by_first : (P : List ℕ → Type 0) (at b : ℕ) (bs : List ℕ)
    → (b ≡ 10 → P (at ∷ line_ends_from (at + 1) bs)) → ((b ≡ 10 → ⊥) → P (line_ends_from (at + 1) bs)) → P (line_ends_from at (b ∷ bs))
by_first P at b bs ended plain =
    subst P (sym (line_ends_from-cons at b bs))
    (elim (cases_eq b 10) [
      | inl lf ↦ subst (λ t. P (cond t (at ∷ line_ends_from (at + 1) bs) (line_ends_from (at + 1) bs))) (sym (eq-eqb b 10 lf)) (ended lf)
      | inr no_lf ↦ subst (λ t. P (cond t (at ∷ line_ends_from (at + 1) bs) (line_ends_from (at + 1) bs))) (sym (ne_eqb b 10 no_lf)) (plain no_lf)
    ])

-- the place `at`, counted from the place of the first byte, is that of a line feed
abbrev IsEnd : ℕ → List ℕ → ℕ → Type 0
IsEnd from bs at = (k : ℕ) × (from + k ≡ at) × (k < length bs) × (get_or bs k 0 ≡ 10)

later : (from b : ℕ) (bs : List ℕ) (at : ℕ) → IsEnd (from + 1) bs at → IsEnd from (b ∷ bs) at
later from b bs at found = (suc found.0, omega (arith, found.1), omega (arith, found.2), found.3)

is_end : (from : ℕ) (bs : List ℕ) (at : ℕ) → Has (line_ends_from from bs) at → IsEnd from bs at
is_end from [] at h = absurd (subst (λ l. Has l at) (line_ends_from-nil from) h)
is_end from (b ∷ bs) at h =
    by_first (λ l. Has l at → IsEnd from (b ∷ bs) at) from b bs
    (λ lf either. elim either [
      | inl here ↦ (0, omega (arith, here), omega arith, lf)
      | inr behind ↦ later from b bs at (is_end (from + 1) bs at behind)
    ])
    (λ plain behind. later from b bs at (is_end (from + 1) bs at behind)) h

has_end : (from : ℕ) (bs : List ℕ) (k : ℕ) → k < length bs → get_or bs k 0 ≡ 10 → Has (line_ends_from from bs) (from + k)
has_end from [] k less lf = absurd (omega (arith, less))
has_end from (b ∷ bs) zero less lf =
    by_first (λ l. Has l (from + 0)) from b bs (λ is. inl (omega arith)) (λ plain. absurd (plain lf))
has_end from (b ∷ bs) (suc k) less lf =
    let behind : Has (line_ends_from (from + 1) bs) (from + suc k) =
    let place : from + 1 + k ≡ from + suc k = omega arith in
    subst (Has (line_ends_from (from + 1) bs)) place (has_end (from + 1) bs k (omega (arith, less)) lf) in
    by_first (λ l. Has l (from + suc k)) from b bs (λ is. inr behind) (λ plain. behind)

pub line_ends_are_line_feeds : LineEndsAreLineFeeds
line_ends_are_line_feeds bytes at = (
  λ h.
      let found : IsEnd 0 bytes at = is_end 0 bytes at h in
      let same : found.0 ≡ at = omega (arith, found.1) in
      (subst (λ k. k < length bytes) same found.2, subst (λ k. get_or bytes k 0 ≡ 10) same found.3),
  λ h. let place : 0 + at ≡ at = omega arith in subst (Has (line_ends_from 0 bytes)) place (has_end 0 bytes at h.0 h.1),
)

rises_sooner : (at : ℕ) (l : List ℕ) → RisesFrom (at + 1) l → RisesFrom at l
rises_sooner at [] h = tt
rises_sooner at (x ∷ xs) h = (omega (arith, h.0), h.1)

rises : (from : ℕ) (bs : List ℕ) → RisesFrom from (line_ends_from from bs)
rises from [] = subst (RisesFrom from) (sym (line_ends_from-nil from)) tt
rises from (b ∷ bs) =
    by_first (RisesFrom from) from b bs
    (λ lf. (omega arith, rises (from + 1) bs))
    (λ plain. rises_sooner from (line_ends_from (from + 1) bs) (rises (from + 1) bs))

pub line_ends_rise : LineEndsRise
line_ends_rise bytes = rises 0 bytes

same_none : (n : ℕ) (a : List ℕ) → first_difference_from n a a ≡ None
same_none n [] = nil_nil n
same_none n (x ∷ xs) = cons_cons n x x xs xs ∙ ap (λ t. cond t (first_difference_from (n + 1) xs xs) (Some n)) (eq-eqb x x refl) ∙ same_none (n + 1) xs

-- up to j bytes in the texts agree, and there they part
abbrev PartsAt : List ℕ → List ℕ → ℕ → Type 0
PartsAt a b j = (take j a ≡ take j b) × Part (drop j a) (drop j b)

abbrev Tells : ℕ → List ℕ → List ℕ → Option ℕ → Type 0
Tells n a b r = MatchOption r (a ≡ b) (λ at. (j : ℕ) × (n + j ≡ at) × PartsAt a b j)

more : (n x : ℕ) (xs ys : List ℕ) (r : Option ℕ) → Tells (n + 1) xs ys r → Tells n (x ∷ xs) (x ∷ ys) r
more n x xs ys None h = ap (λ l. x ∷ l) h
more n x xs ys (Some at) h = (suc h.0, omega (arith, h.1), (ap (λ l. x ∷ l) h.2.0, h.2.1))

tells : (n : ℕ) (a b : List ℕ) → Tells n a b (first_difference_from n a b)
tells n [] [] = subst (Tells n [] []) (sym (nil_nil n)) refl
tells n [] (y ∷ ys) = subst (Tells n [] (y ∷ ys)) (sym (nil_cons n y ys)) (0, omega arith, (refl, tt))
tells n (x ∷ xs) [] = subst (Tells n (x ∷ xs) []) (sym (cons_nil n x xs)) (0, omega arith, (refl, tt))
tells n (x ∷ xs) (y ∷ ys) =
    subst (Tells n (x ∷ xs) (y ∷ ys)) (sym (cons_cons n x y xs ys))
    (elim (cases_eq x y) [
      | inl same ↦ subst (λ t. Tells n (x ∷ xs) (y ∷ ys) (cond t (first_difference_from (n + 1) xs ys) (Some n))) (sym (eq-eqb x y same))
          (subst (λ z. Tells n (x ∷ xs) (z ∷ ys) (first_difference_from (n + 1) xs ys)) same (more n x xs ys (first_difference_from (n + 1) xs ys) (tells (n + 1) xs ys)))
      | inr other ↦ subst (λ t. Tells n (x ∷ xs) (y ∷ ys) (cond t (first_difference_from (n + 1) xs ys) (Some n))) (sym (ne_eqb x y other))
          (0, omega arith, (refl, other))
    ])

pub no_difference_where_equal : NoDifferenceWhereEqual
no_difference_where_equal a b = (
  λ none. MatchOption-at_none (a ≡ b) (λ at. (j : ℕ) × (0 + j ≡ at) × PartsAt a b j) none (tells 0 a b),
  λ same. subst (λ l. first_difference_from 0 a l ≡ None) same (same_none 0 a),
)

placed : (a b : List ℕ) (r : Option ℕ) → Tells 0 a b r → MatchOption r (Unit {0}) (PartsAt a b)
placed a b None h = tt
placed a b (Some at) h = let same : h.0 ≡ at = omega (arith, h.1) in subst (PartsAt a b) same h.2

pub agree_up_to_the_difference : AgreeUpToTheDifference
agree_up_to_the_difference a b = placed a b (first_difference_from 0 a b) (tells 0 a b)
