-- The rule of the word that numbers are drawn from.
use Rattle.std.specs.Prelude.{◌≡◌, ℕ, ◌≤◌, List, [], length, slice_index}
use mathlib.Core.Option.{some}
use lib.ListN.{get_elem?}
use Rattle.atomic_table.specs.Table.{State}
use Rattle.mr_tickets.specs.declared.tickets.Hand.{Hand}
use Rattle.mr_tickets.specs.declared.tickets.Limits.{Limits}
use Rattle.mr_tickets.specs.Drawn.{weigh, below, total, past}

-- a seat's view, with so many parts and these numbers
abbrev pub hand : ℕ → List ℕ → Hand
hand parts drawn = record { parts = parts; drawn = drawn }

-- the numbers in all views are those below the word, each once, however they are weighed. A view has no more numbers past the limit than parts
pub record IsKept (l : Limits) (s : State (Unit {0}) Hand) : Type 0 where
  pub one_word : length s.words ≡ 1
  pub parts : total (λ v. v.parts) s.views ≡ l.seats
  pub each : (h : ℕ → ℕ) → total (λ v. weigh h v.drawn) s.views ≡ below h (slice_index s.words 0)
  pub backed : (id : ℕ) (v : Hand) → get_elem? s.views id ≡ some v → (weigh (past l.limit) v.drawn ≤ v.parts) × (v.parts ≡ 0 → v.drawn ≡ [])
