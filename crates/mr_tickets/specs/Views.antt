-- What contracts see of tickets and of a seat.
use Rattle.std.specs.Prelude.{◌≡◌, ℕ, List, Bool}
use Rattle.atomic_table.specs.Seated.{TableId}

-- the word, how many numbers there are, and how many seats
pub record TicketsView : Type 0 where
  pub table : TableId
  pub limit : ℕ
  pub seats : ℕ

-- the numbers below the limit that were drawn, and whether None was answered
pub record SeatView : Type 0 where
  pub table : TableId
  pub limit : ℕ
  pub drawn : List ℕ
  pub told : Bool

-- the seat is one of these tickets'
abbrev pub IsSeatOf : TicketsView → SeatView → Type 0
IsSeatOf t s = (s.table ≡ t.table) × (s.limit ≡ t.limit)
