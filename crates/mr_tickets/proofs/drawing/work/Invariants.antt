use Rattle.std.proofs.Common.{◌≡◌, ◌-◌, length}
use Rattle.mr_tickets.specs.Views.{IsSeatOf}
use Rattle.mr_tickets.specs.Pieces.{numbers_of, AllGiven}
use Rattle.mr_tickets.proofs.drawing.work.Given as goal

abbrev pub invariant-loop-piece : goal.invariant-loop-piece
invariant-loop-piece g l = record {
  seat : IsSeatOf l.tickets l.seat;
  drawn : numbers_of l.found.items ≡ l.seat.drawn;
  given : AllGiven (g.W.WorkPieces.gives l.all) l.found.items;
}

abbrev pub decreases-loop-piece : goal.decreases-loop-piece
decreases-loop-piece g l = l.tickets.limit - length l.seat.drawn
