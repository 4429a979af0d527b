-- Names that hold a line feed.
use Rattle.std.proofs.Common.{◌≡◌, ℕ, ◌+◌, ◌<◌, ◌≤◌, ◌⊎◌, inl, inr, suc, List, [], ◌∷◌, length, ◌∙◌, ap, subst, arith}
use Rattle.std.specs.List.{AllByRecursion}
use Rattle.mr_bytes.specs.Cut.{Lacks}
use Rattle.std.specs.Prelude.{slice_index_or, Contains, nat_eq, false}
use Rattle.std.proofs.lemmas.Bool.{eqb-false}

last_or_before : (k at : ℕ) → k < at + 1 → (k < at) ⊎ (k ≡ at)
last_or_before k at h = grind arith

pub clear_so_far : (names : List (List ℕ)) (at : ℕ) (bytes : List ℕ) → slice_index_or names at [] ≡ bytes
    → ((k : ℕ) → k < at → ¬ Contains (slice_index_or names k []) 10) → ((k d : ℕ) → 0 ≤ k → k < length bytes → nat_eq (slice_index_or bytes k d) 10 ≡ false)
    → (k : ℕ) → k < at + 1 → ¬ Contains (slice_index_or names k []) 10
clear_so_far names at bytes e before none k h = at_last (last_or_before k at h)
  where
    at_last : (k < at) ⊎ (k ≡ at) → ¬ Contains (slice_index_or names k []) 10
    at_last (inl less) = before k less
    at_last (inr same) = λ held. let there : slice_index_or names k [] ≡ bytes = ap (λ (n : ℕ). slice_index_or names n []) same ∙ e in
        eqb-false (slice_index_or bytes held.0 10) 10 (none held.0 10 (omega arith) (subst (λ (v : List ℕ). held.0 < length v) there held.1)) (subst (λ (v : List ℕ). slice_index_or v held.0 10 ≡ 10) there held.2)

lacks : (mark : ℕ) (bs : List ℕ) → ¬ Contains bs mark → Lacks mark bs
lacks mark [] h = tt
lacks mark (b ∷ bs) h = ((λ e. h (0, omega arith, e)), lacks mark bs (λ c. h (suc c.0, omega (arith, c.1), c.2)))

pub all_clear : (mark : ℕ) (names : List (List ℕ)) → ((k : ℕ) → k < length names → ¬ Contains (slice_index_or names k []) mark) → AllByRecursion (Lacks mark) names
all_clear mark [] h = tt
all_clear mark (n ∷ ns) h = (lacks mark n (h 0 (omega arith)), all_clear mark ns (λ k l. h (suc k) (omega (arith, l))))
