-- Seats that are taken one by one from the end of a list.
use Rattle.std.proofs.Common.{◌≡◌, ℕ, zero, suc, ◌+◌, ◌-◌, ◌≤◌, List, [], ◌∷◌, ◌++◌, length, get_or, refl, ap, ◌∙◌, arith}
use Rattle.std.specs.Prelude.{All}
use mathlib.Core.Option.{some}
use lib.ListN.{get_elem?}
use Rattle.atomic_table.specs.Table.{State}
use Rattle.mr_tickets.specs.declared.tickets.Hand.{Hand}
use Rattle.mr_tickets.specs.declared.tickets.Limits.{Limits}
use Rattle.mr_tickets.specs.Drawn.{weigh, below, total, past, kept}
use Rattle.mr_tickets.specs.Rule.{IsKept}
use Rattle.mr_tickets.proofs.Sums.{below_past, below_cut, cut, weigh_kept}
use Rattle.mr_tickets.proofs.Moves.{knows}

module _ {X : Type 0} (P : X → Type 0) where
  pub all_last : (xs : List X) (x : X) → All P (xs ++ x ∷ []) → P x
  all_last [] x all = all 0 x (omega arith)
  all_last (y ∷ ys) x all = all_last ys x (λ k d lt. all (suc k) d (omega arith))

  pub all_front : (xs : List X) (x : X) → All P (xs ++ x ∷ []) → All P xs
  all_front [] x all k d lt = absurd (omega arith)
  all_front (y ∷ ys) x all zero d lt = all zero d (omega arith)
  all_front (y ∷ ys) x all (suc k) d lt = all_front ys x (λ j e le. all (suc j) e (omega arith)) k d (omega arith)

pub total_empty : {X : Type 0} (f : X → ℕ) (xs : List X) → length xs ≡ 0 → total f xs ≡ 0
total_empty f [] e = refl
total_empty f (x ∷ xs) e = absurd (omega arith)

-- who has every part, and a number past the limit, has all numbers below it
pub closes : (l : Limits) (s : State (Unit {0}) Hand) (id : ℕ) (v : Hand) (n : ℕ) → IsKept l s → get_elem? s.views id ≡ some v → v.parts ≡ l.seats → 1 ≤ weigh (past n) v.drawn
    → (h : ℕ → ℕ) → weigh h (kept n v.drawn) ≡ below h n
closes l s id v n r at all over h =
    let w : ℕ = get_or s.words 0 0 in
    let far = knows l s id v r at all (past n) ∙ below_past n w in
    let is : w ≡ (w - n) + n = omega arith in
    weigh_kept n h v.drawn ∙ knows l s id v r at all (cut n h) ∙ ap (below (cut n h)) is ∙ below_cut n h (w - n)
