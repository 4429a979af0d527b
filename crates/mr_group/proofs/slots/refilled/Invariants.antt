use Rattle.std.proofs.Common.{ℕ, List, All}
use Rattle.mr_group.specs.Interner.{IsSlotOf}
use Rattle.mr_group.proofs.slots.refilled.Given as goal

abbrev pub invariant-loop-slot : goal.invariant-loop-slot
invariant-loop-slot l = (keys : List (List ℕ)) → All (IsSlotOf keys) l.fn.slots → All (IsSlotOf keys) l.more.items
