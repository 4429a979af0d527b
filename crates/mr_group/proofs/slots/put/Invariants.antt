use Rattle.std.proofs.Common.{ℕ, List, All}
use Rattle.mr_group.specs.Interner.{IsSlotOf}
use Rattle.mr_group.proofs.slots.put.Given as goal

abbrev pub invariant-loop : goal.invariant-loop
invariant-loop l = (keys : List (List ℕ)) → IsSlotOf keys l.fn.slot → All (IsSlotOf keys) l.fn.slots.items → All (IsSlotOf keys) l.slots.items
