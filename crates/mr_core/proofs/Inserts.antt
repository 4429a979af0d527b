-- A number at its place in a list.
use Rattle.std.proofs.Common.{◌≡◌, ℕ, zero, suc, ◌<◌, ◌≤◌, List, [], ◌∷◌, length, get_or, refl, ap, sym, ◌∙◌, arith, Bool, true, false, cond, nat_lt, ◌==◌}
use Rattle.std.specs.List.{insert}
use Rattle.std.specs.Ordering.{nat_cmp}
use Rattle.std.specs.declared.cmp.Ordering.{Ordering}
use Rattle.std.specs.declared.cmp.Ordering.TheVariants.{Less, Equal, Greater}
use Rattle.std.proofs.lemmas.Bool.Decides.{nat_tests}
use Rattle.mr_core.specs.Master.{by_order, with_number}

less : (n x : ℕ) → n < x → nat_cmp n x ≡ Less
less n x h = let t : nat_lt n x ≡ true = grind (arith, nat_tests) in ap (λ (b : Bool). cond b Less (cond (n == x) Equal Greater)) t

equal : (n x : ℕ) → n ≡ x → nat_cmp n x ≡ Equal
equal n x h =
    let t : nat_lt n x ≡ false = grind (arith, nat_tests) in
    let e : (n == x) ≡ true = grind (arith, nat_tests) in
    ap (λ (b : Bool). cond b Less (cond (n == x) Equal Greater)) t ∙ ap (λ (b : Bool). cond b Equal Greater) e

greater : (n x : ℕ) → x < n → nat_cmp n x ≡ Greater
greater n x h =
    let t : nat_lt n x ≡ false = grind (arith, nat_tests) in
    let e : (n == x) ≡ false = grind (arith, nat_tests) in
    ap (λ (b : Bool). cond b Less (cond (n == x) Equal Greater)) t ∙ ap (λ (b : Bool). cond b Equal Greater) e

past : (n x : ℕ) (xs : List ℕ) → x < n → with_number n (x ∷ xs) ≡ x ∷ with_number n xs
past n x xs h = ap (λ (o : Ordering). by_order o (n ∷ x ∷ xs) (x ∷ xs) (x ∷ with_number n xs)) (greater n x h)

pub place_there : (n : ℕ) (xs : List ℕ) (at : ℕ) → at < length xs → ((k : ℕ) → k < at → get_or xs k 0 < n) → get_or xs at 0 ≡ n → with_number n xs ≡ xs
place_there n [] at h below e = absurd (omega arith)
place_there n (x ∷ xs) zero h below e = ap (λ (o : Ordering). by_order o (n ∷ x ∷ xs) (x ∷ xs) (x ∷ with_number n xs)) (equal n x (sym e))
place_there n (x ∷ xs) (suc at) h below e = past n x xs (below 0 (omega arith)) ∙ ap (λ ys. x ∷ ys) (place_there n xs at (omega arith) (λ k l. below (suc k) (omega arith)) e)

pub place_new : (n : ℕ) (xs : List ℕ) (at : ℕ) → at ≤ length xs → ((k : ℕ) → k < at → get_or xs k 0 < n) → (at < length xs → n < get_or xs at 0) → with_number n xs ≡ insert xs at n
place_new n [] zero h below e = refl
place_new n [] (suc at) h below e = absurd (omega arith)
place_new n (x ∷ xs) zero h below e = ap (λ (o : Ordering). by_order o (n ∷ x ∷ xs) (x ∷ xs) (x ∷ with_number n xs)) (less n x (e (omega arith)))
place_new n (x ∷ xs) (suc at) h below e = past n x xs (below 0 (omega arith)) ∙ ap (λ ys. x ∷ ys) (place_new n xs at (omega arith) (λ k l. below (suc k) (omega arith)) (λ l. e (omega arith)))
