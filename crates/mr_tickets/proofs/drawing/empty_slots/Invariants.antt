use Rattle.std.specs.Prelude.{◌≡◌, None, replicate}
use Rattle.mr_tickets.proofs.drawing.empty_slots.Given as goal

abbrev pub invariant-loop-i : goal.invariant-loop-i
invariant-loop-i g l = l.slots.items ≡ replicate l._i None
