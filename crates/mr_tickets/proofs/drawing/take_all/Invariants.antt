use Rattle.std.proofs.Common.{◌≡◌, ◌+◌, ◌<◌, ℕ, [], vec_len}
use Rattle.std.specs.Prelude.{slice_index_or}
use Rattle.mr_tickets.specs.Pieces.{AllSlots}
use Rattle.mr_tickets.proofs.drawing.take_all.Given as goal

abbrev pub invariant-loop-slot : goal.invariant-loop-slot
invariant-loop-slot g l = record {
  len : vec_len l.outs + vec_len l.slots ≡ l.count;
  slots : AllSlots (g.W.WorkPieces.gives l.all) [] l.count l.slots.items;
  each : (p : ℕ) (d : _) → p < vec_len l.outs → g.W.WorkPieces.gives l.all p (slice_index_or l.outs.items p d);
}

abbrev pub decreases-loop-slot : goal.decreases-loop-slot
decreases-loop-slot g l = vec_len l.slots
