-- What threads that draw pieces have to do, and have done.
use Rattle.std.specs.Prelude.{◌≡◌, ◌≤◌, ◌<◌, ◌-◌, length, slice_index_or, ℕ, List, [], map, true, All, Option, Some, None}
use Rattle.mr_tickets.specs.Views.{TicketsView, IsSeatOf}
use Rattle.mr_tickets.specs.Drawn.{times}
use Rattle.mr_tickets.specs.declared.drawing.Found.{Found}
use Rattle.mr_tickets.specs.declared.drawing.Job.{Job}
use Rattle.mr_tickets.specs.declared.drawing.Done.{Done}

-- the job's seat is one of these tickets', and has drawn nothing
abbrev pub IsFresh : TicketsView → Job → Type 0
IsFresh t j = IsSeatOf t j.seat × (j.seat.drawn ≡ [])

module _ {X : Type 0} where
  -- the numbers of the pieces that gave these results
  abbrev pub numbers_of : List (Found X) → List ℕ
  numbers_of fs = map (λ f. f.piece) fs

  -- each result is one that its piece may give
  abbrev pub AllGiven : (ℕ → X → Type 0) → List (Found X) → Type 0
  AllGiven gives fs = All (λ f. gives f.piece f.out) fs

  -- the seat was told that no number is left, and the results are those of the numbers that it drew
  pub record IsDone (gives : ℕ → X → Type 0) (t : TicketsView) (d : Done X) : Type 0 where
    pub seat : IsSeatOf t d.seat
    pub told : d.seat.told ≡ true
    pub drawn : numbers_of d.found.items ≡ d.seat.drawn
    pub given : AllGiven gives d.found.items

  -- the slot of a piece has its result, or the result is still to come
  abbrev pub IsSlot : (ℕ → X → Type 0) → List ℕ → ℕ → Option X → Type 0
  IsSlot gives rest piece None = 1 ≤ times piece rest
  IsSlot gives rest piece (Some x) = gives piece x

  -- each slot is so; the slot of a piece stands as far from the end as the piece from the start
  abbrev pub AllSlots : (ℕ → X → Type 0) → List ℕ → ℕ → List (Option X) → Type 0
  AllSlots gives rest count slots = (j : ℕ) (d : Option X) → j < length slots → IsSlot gives rest (count - 1 - j) (slice_index_or slots j d)
