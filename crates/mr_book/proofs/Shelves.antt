-- What a search finds among outputs by rising number.
use Rattle.std.proofs.Common.{◌≡◌, ℕ, zero, suc, ◌<◌, ◌≤◌, Some, List, [], ◌∷◌, length, get_or, refl, ap, sym, ◌∙◌, Bool, true, false, cond, arith}
use Rattle.std.specs.Prelude.{IsSome, ◌==◌, nat_lt}
use Rattle.std.specs.List.{AllByRecursion}
use Rattle.std.specs.List.Sorted.{IsNonDecreasingBy, IsPartitionPoint}
use Rattle.std.specs.Ordering.{nat_cmp, ordering_index}
use Rattle.std.specs.declared.cmp.Ordering.TheVariants.{Less, Equal, Greater}
use Rattle.std.proofs.lemmas.Bool.{eqb-true, false≢true}
use Rattle.std.proofs.lemmas.Bool.Decides.{nat_tests}
use Rattle.std.proofs.lemmas.Cmp.{ranked}
use Rattle.mr_bytes.specs.Lists.{Rises}
use Rattle.mr_book.specs.Stored.{numbers, stored_at}

module _ {V : Type 0} where
  later : (P : ℕ → Type 0) (xs : List (ℕ × V)) (at : ℕ) (d : ℕ × V) → AllByRecursion P (numbers xs) → at < length xs → P (get_or xs at d).0
  later P [] at d all lt = absurd (omega arith)
  later P (x ∷ xs) zero d all lt = all.0
  later P (x ∷ xs) (suc at) d all lt = later P xs at d all.1 (omega arith)

  numbers_rise : (xs : List (ℕ × V)) → Rises nat_cmp (numbers xs) → (i j : ℕ) (d : ℕ × V) → i < j → j < length xs → (get_or xs i d).0 < (get_or xs j d).0
  numbers_rise [] rises i j d less lt = absurd (omega arith)
  numbers_rise (x ∷ xs) rises i zero d less lt = absurd (omega arith)
  numbers_rise (x ∷ xs) rises zero (suc j) d less lt = ranked _ _ _ (sym (later (λ y. nat_cmp (x.0) y ≡ Less) xs j d rises.0 (omega arith)))
  numbers_rise (x ∷ xs) rises (suc i) (suc j) d less lt = numbers_rise xs rises.1 i j d (omega arith) (omega arith)

  -- the comparisons with a number rise, as a binary search asks
  comparisons_rise : (xs : List (ℕ × V)) (number : ℕ) → Rises nat_cmp (numbers xs) → IsNonDecreasingBy (λ s. ordering_index (nat_cmp (s.0) number)) xs
  comparisons_rise xs number rises i j d le lt =
      let less = numbers_rise xs rises i j d in
      let rise : (get_or xs i d).0 ≤ (get_or xs j d).0 = grind (arith, less, λ (same : i ≡ j). ap (λ k. (get_or xs k d).0) same) in
      grind (arith, nat_tests)

  missed : (xs : List (ℕ × V)) (number : ℕ) → ((k : ℕ) (d : ℕ × V) → k < length xs → (get_or xs k d).0 ≡ number → ⊥) → IsSome (stored_at xs number) → ⊥
  missed [] number f some = absurd (false≢true some)
  missed (x ∷ xs) number f some = by (x.0 == number) refl some (missed xs number (λ k d lt. f (suc k) d (omega arith)))
    where
      by : (b : Bool) → (x.0 == number) ≡ b → IsSome (cond b (Some (x.1)) (stored_at xs number)) → (IsSome (stored_at xs number) → ⊥) → ⊥
      by true is some rest = f 0 x (omega arith) (eqb-true (x.0) number is)
      by false is some rest = rest some

  -- a number that is stored is no gap
  pub no_gap : (xs : List (ℕ × V)) (number at : ℕ) → Rises nat_cmp (numbers xs)
      → (IsNonDecreasingBy (λ s. ordering_index (nat_cmp (s.0) number)) xs → IsPartitionPoint (λ s. nat_cmp (s.0) number ≡ Less) (λ s. nat_cmp (s.0) number ≡ Greater) xs at)
      → IsSome (stored_at xs number) → ⊥
  no_gap xs number at rises gap some =
      let parts = gap (comparisons_rise xs number rises) in
      missed xs number (λ k d lt e. by k d lt e (nat_lt k at) refl) some
    where
      by : (k : ℕ) (d : ℕ × V) → k < length xs → (get_or xs k d).0 ≡ number → (b : Bool) → nat_lt k at ≡ b → ⊥
      by k d lt e true is =
          let below : k < at = grind (arith, nat_tests) in
          let less : (get_or xs k d).0 < number = ranked _ _ _ (sym ((gap (comparisons_rise xs number rises)).0 k d (omega arith) below)) in
          omega arith
      by k d lt e false is =
          let above : at ≤ k = grind (arith, nat_tests) in
          let greater : number < (get_or xs k d).0 = ranked _ _ _ (sym ((gap (comparisons_rise xs number rises)).1 k d above lt)) in
          omega arith

  -- the output at the place of a number is the one stored under it
  pub found : (xs : List (ℕ × V)) (number at : ℕ) (s : ℕ × V) → Rises nat_cmp (numbers xs) → at < length xs → nat_cmp ((get_or xs at s).0) number ≡ Equal → s ≡ get_or xs at s → stored_at xs number ≡ Some (s.1)
  found [] number at s rises lt equal is = absurd (omega arith)
  found (x ∷ xs) number zero s rises lt equal is =
      let same : x.0 ≡ number = ranked _ _ _ (sym equal) in
      let here : (x.0 == number) ≡ true = grind (arith, nat_tests) in
      ap (λ (b : Bool). cond b (Some (x.1)) (stored_at xs number)) here ∙ ap (λ (y : ℕ × V). Some (y.1)) (sym is)
  found (x ∷ xs) number (suc at) s rises lt equal is =
      let same : (get_or xs at s).0 ≡ number = ranked _ _ _ (sym equal) in
      let less : x.0 < (get_or xs at s).0 = ranked _ _ _ (sym (later (λ y. nat_cmp (x.0) y ≡ Less) xs at s rises.0 (omega arith))) in
      let there : (x.0 == number) ≡ false = grind (arith, nat_tests) in
      ap (λ (b : Bool). cond b (Some (x.1)) (stored_at xs number)) there ∙ found xs number at s rises.1 (omega arith) equal is
