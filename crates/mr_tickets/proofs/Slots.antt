-- Results that go to their places.
use Rattle.std.proofs.Common.{◌≡◌, ◌≢◌, ℕ, zero, suc, ◌+◌, ◌-◌, ◌<◌, ◌≤◌, List, [], ◌∷◌, ◌++◌, length, get_or, set, replicate, Bool, true, false, refl, sym, ap, ◌∙◌, subst, arith, get_or-set_same, get_or-set_other, length-append, length-set}
use Rattle.std.proofs.lemmas.List.{length-replicate}
use Rattle.std.specs.Prelude.{All, Option, Some, None, if◌then◌else◌, nat_le, ◌==◌, slice_set}
use Rattle.std.proofs.lemmas.Bool.Decides.{nat_tests}
use native.Mathlib.Decide.{ℕ_discrete}
use mathlib.Core.Logic.{dite}
use Rattle.mr_tickets.specs.Drawn.{weigh, below, at, past, times, total}
use Rattle.mr_tickets.specs.declared.drawing.Found.{Found}
use Rattle.mr_tickets.specs.Pieces.{numbers_of, IsSlot, AllSlots}

past_zero : (n x : ℕ) → past n x ≡ 0 → x < n
past_zero n x = by_test (nat_le n x) refl
  where
    by_test : (b : Bool) → nat_le n x ≡ b → ◌≡◌ {A = ℕ} (if b then 1 else 0) 0 → x < n
    by_test true is e = absurd (omega arith)
    by_test false is e = grind (arith, nat_tests)

past_below : (n x : ℕ) → x < n → past n x ≡ 0
past_below n x lt = let t : nat_le n x ≡ false = grind (arith, nat_tests) in ap (λ (b : Bool). if b then 1 else 0) t

below_zero : (h : ℕ → ℕ) (w : ℕ) → ((x : ℕ) → x < w → h x ≡ 0) → below h w ≡ 0
below_zero h zero z = refl
below_zero h (suc w) z = let r = below_zero h w (λ x lt. z x (omega arith)) in let a = z w (omega arith) in omega arith

at_same : (x y : ℕ) → y ≡ x → at x y ≡ 1
at_same x y e = let t : (y == x) ≡ true = grind (arith, nat_tests) in ap (λ (b : Bool). if b then 1 else 0) t

at_other : (x y : ℕ) → y ≢ x → at x y ≡ 0
at_other x y ne = let t : (y == x) ≡ false = grind (arith, nat_tests) in ap (λ (b : Bool). if b then 1 else 0) t

below_at : (x n : ℕ) → x < n → 1 ≤ below (at x) n
below_at x zero lt = absurd (omega arith)
below_at x (suc n) lt = dite (ℕ_discrete n x)
    (λ same. let a = at_same x n same in omega arith)
    (λ other. let r = below_at x n (omega arith) in omega arith)

module _ {X : Type 0} where
  -- what is drawn once, however it is weighed, is below the limit
  pub all_within : (n : ℕ) (fs : List (Found X)) → weigh (past n) (numbers_of fs) ≡ 0 → All (λ (f : Found X). f.piece < n) fs
  all_within n [] e k d lt = absurd (omega arith)
  all_within n (f ∷ fs) e zero d lt = past_zero n f.piece (omega arith)
  all_within n (f ∷ fs) e (suc k) d lt = all_within n fs (omega arith) k d (omega arith)

  pub all_in_range : (n : ℕ) (fs : List (Found X)) → ((h : ℕ → ℕ) → weigh h (numbers_of fs) ≡ below h n) → All (λ (f : Found X). f.piece < n) fs
  all_in_range n fs once = all_within n fs (once (past n) ∙ below_zero (past n) n (λ x lt. past_below n x lt))

  get_replicate : (n : ℕ) (x : X) (j : ℕ) (d : X) → j < n → get_or (replicate n x) j d ≡ x
  get_replicate zero x j d lt = absurd (omega arith)
  get_replicate (suc n) x zero d lt = refl
  get_replicate (suc n) x (suc j) d lt = get_replicate n x j d (omega arith)

  times_more : (fs : List (Found X)) (f : Found X) (p : ℕ) → times p (numbers_of (fs ++ f ∷ [])) ≡ times p (numbers_of fs) + at p f.piece
  times_more [] f p = omega arith
  times_more (g ∷ gs) f p = let r = times_more gs f p in omega arith

module _ {X : Type 0} (gives : ℕ → X → Type 0) where
  pub starts : (n : ℕ) (fs : List (Found X)) → ((h : ℕ → ℕ) → weigh h (numbers_of fs) ≡ below h n) → (slots : List (Option X)) → slots ≡ replicate n None → AllSlots gives (numbers_of fs) n slots
  starts n fs once slots is = subst (λ (l : List (Option X)). AllSlots gives (numbers_of fs) n l) (sym is) (λ j d lt.
      (let inside : j < n = subst (λ (m : ℕ). j < m) (length-replicate n None) lt in
      let some_left : 1 ≤ times (n - 1 - j) (numbers_of fs) = subst (λ (m : ℕ). 1 ≤ m) (sym (once (at (n - 1 - j)))) (below_at (n - 1 - j) n (omega arith)) in
      subst (λ (o : Option X). IsSlot gives (numbers_of fs) (n - 1 - j) o) (sym (get_replicate n None j d inside)) some_left))

  other_slot : (fs : List (Found X)) (f : Found X) (p : ℕ) → f.piece ≢ p → (o : Option X) → IsSlot gives (numbers_of (fs ++ f ∷ [])) p o → IsSlot gives (numbers_of fs) p o
  other_slot fs f p apart None h = let t = times_more fs f p in let a = at_other p f.piece apart in omega arith
  other_slot fs f p apart (Some x) h = h

  pub fills : (n : ℕ) (slots : List (Option X)) (fs : List (Found X)) (f : Found X) → length slots ≡ n → f.piece < n → gives f.piece f.out → AllSlots gives (numbers_of (fs ++ f ∷ [])) n slots
      → AllSlots gives (numbers_of fs) n (slice_set slots (n - 1 - f.piece) (Some f.out))
  fills n slots fs f len inside given all j d lt =
      let i : ℕ = n - 1 - f.piece in
      let same_length : length (set slots i (Some f.out)) ≡ length slots = length-set slots i (Some f.out) in
      let here : j < length slots = subst (λ (m : ℕ). j < m) same_length lt in
      dite (ℕ_discrete j i)
      (λ (same : j ≡ i).
      let piece : n - 1 - j ≡ f.piece = omega arith in
      let found : get_or (set slots i (Some f.out)) j d ≡ Some f.out = ap (λ (m : ℕ). get_or (set slots i (Some f.out)) m d) same ∙ get_or-set_same slots i (Some f.out) d (omega arith) in
      subst (λ (o : Option X). IsSlot gives (numbers_of fs) (n - 1 - j) o) (sym found) (subst (λ (p : ℕ). gives p f.out) (sym piece) given))
      (λ (other : j ≢ i).
      let apart : f.piece ≢ n - 1 - j = λ e. other (omega arith) in
      let found : get_or (set slots i (Some f.out)) j d ≡ get_or slots j d = get_or-set_other slots i j (Some f.out) d other in
      subst (λ (o : Option X). IsSlot gives (numbers_of fs) (n - 1 - j) o) (sym found) (other_slot fs f (n - 1 - j) apart (get_or slots j d) (all j d here)))

module _ {X : Type 0} (P : X → Type 0) where
  pub all_last : (xs : List X) (x : X) → All P (xs ++ x ∷ []) → P x
  all_last [] x all = all 0 x (omega arith)
  all_last (y ∷ ys) x all = all_last ys x (λ k d lt. all (suc k) d (omega arith))

  pub all_front : (xs : List X) (x : X) → All P (xs ++ x ∷ []) → All P xs
  all_front [] x all k d lt = absurd (omega arith)
  all_front (y ∷ ys) x all zero d lt = all zero d (omega arith)
  all_front (y ∷ ys) x all (suc k) d lt = all_front ys x (λ j e le. all (suc j) e (omega arith)) k d (omega arith)

  pub all_more : (xs : List X) (x : X) → All P xs → P x → All P (xs ++ x ∷ [])
  all_more [] x all p zero d lt = p
  all_more [] x all p (suc k) d lt = absurd (omega arith)
  all_more (y ∷ ys) x all p zero d lt = all zero d (omega arith)
  all_more (y ∷ ys) x all p (suc k) d lt = all_more ys x (λ j e le. all (suc j) e (omega arith)) p k d (omega arith)

pub weigh_pieces : {X : Type 0} (h : ℕ → ℕ) (xs ys : List (Found X)) → weigh h (numbers_of (xs ++ ys)) ≡ weigh h (numbers_of xs) + weigh h (numbers_of ys)
weigh_pieces h [] ys = omega arith
weigh_pieces h (x ∷ xs) ys = let r = weigh_pieces h xs ys in omega arith

pub total_more : {X : Type 0} (f : X → ℕ) (xs : List X) (x : X) → total f (xs ++ x ∷ []) ≡ total f xs + f x
total_more f [] x = omega arith
total_more f (y ∷ ys) x = let r = total_more f ys x in omega arith

module _ {X : Type 0} where
  get_front : (xs : List X) (x d : X) (j : ℕ) → j < length xs → get_or (xs ++ x ∷ []) j d ≡ get_or xs j d
  get_front [] x d j lt = absurd (omega arith)
  get_front (y ∷ ys) x d zero lt = refl
  get_front (y ∷ ys) x d (suc j) lt = get_front ys x d j (omega arith)

  get_last : (xs : List X) (x d : X) → get_or (xs ++ x ∷ []) (length xs) d ≡ x
  get_last [] x d = refl
  get_last (y ∷ ys) x d = get_last ys x d

module _ {X : Type 0} (gives : ℕ → X → Type 0) where
  -- the last slot, and those before it
  pub slot_last : (n : ℕ) (slots : List (Option X)) (o : Option X) → AllSlots gives [] n (slots ++ o ∷ []) → IsSlot gives [] (n - 1 - length slots) o
  slot_last n slots o all = subst (IsSlot gives [] (n - 1 - length slots)) (get_last slots o o) (all (length slots) o (omega (arith, length-append slots (o ∷ []))))

  pub slots_front : (n : ℕ) (slots : List (Option X)) (o : Option X) → AllSlots gives [] n (slots ++ o ∷ []) → AllSlots gives [] n slots
  slots_front n slots o all j d lt = subst (IsSlot gives [] (n - 1 - j)) (get_front slots o d j lt) (all j d (omega (arith, lt, length-append slots (o ∷ []))))

  -- what pieces gave, and what the next one gave
  pub each_more : (outs : List X) (x : X) → ((p : ℕ) (d : X) → p < length outs → gives p (get_or outs p d)) → gives (length outs) x
      → (p : ℕ) (d : X) → p < length (outs ++ x ∷ []) → gives p (get_or (outs ++ x ∷ []) p d)
  each_more outs x each last p d lt = dite (ℕ_discrete p (length outs))
      (λ (same : p ≡ length outs). subst (λ (q : ℕ). gives q (get_or (outs ++ x ∷ []) q d)) (sym same) (subst (gives (length outs)) (sym (get_last outs x d)) last))
      (λ (other : p ≢ length outs). let less : p < length outs = omega (arith, lt, other, length-append outs (x ∷ [])) in subst (gives p) (sym (get_front outs x d p less)) (each p d less))
