use Rattle.std.proofs.Common.{◌≡◌, ◌<◌, vec_len, length}
use Rattle.std.specs.Prelude.{All}
use Rattle.mr_tickets.specs.Pieces.{numbers_of, AllGiven, AllSlots}
use Rattle.mr_tickets.proofs.drawing.fill.Given as goal

abbrev pub invariant-loop-next : goal.invariant-loop-next
invariant-loop-next g l = record {
  len : length l.slots ≡ l.count;
  within : All (λ f. f.piece < l.count) l.found.items;
  given : AllGiven (g.W.WorkPieces.gives l.all) l.found.items;
  filled : AllSlots (g.W.WorkPieces.gives l.all) (numbers_of l.found.items) l.count l.slots;
}

abbrev pub decreases-loop-next : goal.decreases-loop-next
decreases-loop-next g l = vec_len l.found
