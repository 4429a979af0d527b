-- Rising numbers searched.
use Rattle.std.proofs.Common.{◌≡◌, ℕ, false, ◌<◌, ◌≤◌, ◌==◌, List, Result, Ok, Err, MatchResult, length, get_or, is_ok, sym, arith, inl, inr}
use Rattle.std.proofs.lemmas.Bool.{cases_lt, eq-eqb, ne_eqb}
use Rattle.std.proofs.lemmas.List.{get_or_default}
use Rattle.std.proofs.lemmas.List.Folds.{list_any_at, list_any_none}
use Rattle.std.proofs.lemmas.List.Sorted.{searched}
use Rattle.std.specs.List.Sorted.{IsBinarySearchResult, IsNonDecreasing}
use Rattle.std.specs.Ordering.{nat_cmp}
use Rattle.mr_task.specs.Values.{has_number}

pub found-is : (xs : List ℕ) (x : ℕ) (r : Result ℕ ℕ) → IsBinarySearchResult (λ y. nat_cmp y x) xs r → IsNonDecreasing xs → is_ok r ≡ has_number xs x
found-is xs x r found rise = by r (searched xs x r found (λ i j h k. rise i j 0 h k))
  where
    other : (i : ℕ) → ((k : ℕ) → k < i → get_or xs k 0 < x) → ((k : ℕ) → i ≤ k → k < length xs → x < get_or xs k 0)
        → (k d : ℕ) → k < length xs → (get_or xs k d == x) ≡ false
    other i below above k d h =
        let at : get_or xs k d ≡ get_or xs k 0 = get_or_default xs k d 0 h in
        elim (cases_lt k i) [
          | inl l ↦ ne_eqb (get_or xs k d) x (λ e. omega (arith, below k l, at, e))
          | inr g ↦ ne_eqb (get_or xs k d) x (λ e. omega (arith, above k g h, at, e))
        ]

    by : (s : Result ℕ ℕ) → MatchResult s (λ i. (i < length xs) × (get_or xs i 0 ≡ x)) (λ i. (i ≤ length xs) × ((k : ℕ) → k < i → get_or xs k 0 < x) × ((k : ℕ) → i ≤ k → k < length xs → x < get_or xs k 0)) → is_ok s ≡ has_number xs x
    by (Ok i) at = sym (list_any_at (λ m. m == x) xs i 0 at.0 (eq-eqb (get_or xs i 0) x at.1))
    by (Err i) none = sym (list_any_none (λ m. m == x) xs (other i none.1 none.2))
