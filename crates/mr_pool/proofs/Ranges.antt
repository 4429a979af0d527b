-- A test of all numbers from one on, number by number.
use Rattle.std.proofs.Common.{◌≡◌, ℕ, zero, suc, ◌+◌, ◌<◌, Bool, true, false, ◌&&◌, refl, ap, sym, ◌∙◌, subst, arith}
use Rattle.std.specs.List.{list_all, range_with_len}
use Rattle.std.proofs.lemmas.Bool.{and_parts}

and_false : (b : Bool) → (b && false) ≡ false
and_false true = refl
and_false false = refl

module _ (P : ℕ → Bool) where
  pub all-more : (a n : ℕ) → list_all P (range_with_len a n) ≡ true → P (a + n) ≡ true → list_all P (range_with_len a (n + 1)) ≡ true
  all-more a zero all one = let here : a + 0 ≡ a = omega arith in let e : P a ≡ true = sym (ap P here) ∙ one in ap (λ b. b && true) e
  all-more a (suc n) all one =
      let parts = and_parts (P a) (list_all P (range_with_len (a + 1) n)) all in
      let there : a + suc n ≡ a + 1 + n = omega arith in
      let rest = all-more (a + 1) n parts.1 (sym (ap P there) ∙ one) in
      let count : suc (n + 1) ≡ suc n + 1 = omega arith in
      subst (λ m. list_all P (range_with_len a m) ≡ true) count (λ i. parts.0 i && rest i)

  pub all-fails : (a n i : ℕ) → i < n → P (a + i) ≡ false → list_all P (range_with_len a n) ≡ false
  all-fails a zero i l fails = absurd (omega arith)
  all-fails a (suc n) zero l fails = let here : a + 0 ≡ a = omega arith in ap (λ b. b && list_all P (range_with_len (a + 1) n)) (sym (ap P here) ∙ fails)
  all-fails a (suc n) (suc i) l fails =
      let there : a + suc i ≡ a + 1 + i = omega arith in
      ap (λ b. P a && b) (all-fails (a + 1) n i (omega arith) (sym (ap P there) ∙ fails)) ∙ and_false (P a)
