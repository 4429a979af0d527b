-- Lists, one item behind another.
use Rattle.std.proofs.Common.{◌≡◌, ℕ, ◌+◌, ◌<◌, ◌≤◌, ◌++◌, ◌⊎◌, inl, inr, List, [], ◌∷◌, length, ap, sym, ◌∙◌, subst, arith}
use Rattle.std.proofs.lemmas.Bool.{cases_lt}
use Rattle.std.proofs.lemmas.List.{get_or_append_left}
use Rattle.std.proofs.Math.Seq.{get_or-append_seam}
use Rattle.mr_input.specs.Files.{nth_file}

-- what holds of each item by its number holds with one more behind
pub each_more : (P : ℕ → List ℕ → Type 0) (xs : List (List ℕ)) (x : List ℕ) (n : ℕ) → length xs ≡ n
    → ((p : ℕ) → p < n → P p (nth_file xs p)) → P n x → (p : ℕ) → p < n + 1 → P p (nth_file (xs ++ x ∷ []) p)
each_more P xs x n count all here p less = by (cases_lt p n)
  where
    by : (p < n) ⊎ (n ≤ p) → P p (nth_file (xs ++ x ∷ []) p)
    by (inl l) = subst (P p) (sym (get_or_append_left xs (x ∷ []) [] p (omega (arith, l, count)))) (all p l)
    by (inr g) =
        let same : n ≡ p = omega (arith, g, less) in
        let at : nth_file (xs ++ x ∷ []) p ≡ x = ap (λ k. nth_file (xs ++ x ∷ []) k) (sym same ∙ sym count) ∙ get_or-append_seam xs x [] [] in
        subst (P p) (sym at) (subst (λ k. P k x) same here)
