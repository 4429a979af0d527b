use Rattle.std.proofs.Common.{List, All, subst, sym, ap, arith}
use Rattle.mr_group.specs.Interner.{IsSlotOf}
use Rattle.mr_group.specs.declared.slots.Slot.{Slot}
use Rattle.mr_group.proofs.slots.refilled.Goals as goal
use Rattle.mr_group.proofs.slots.refilled.Goals.{then-slot, else-slot}

pub loop-slot-preserved : goal.loop-slot-preserved
loop-slot-preserved c = λ keys all.
    elim c.if-slot.branch [
      | then-slot w ↦
          subst (λ (l : List Slot). All (IsSlotOf keys) l) (sym (ap (λ v. v.items) w.more-is))
          (w.put.ensures keys (all c.loop-slot.slot-index _ (omega (arith, c.loop-slot-test.true))) (c.loop-slot.invariant keys all))
      | else-slot w ↦ subst (λ (l : List Slot). All (IsSlotOf keys) l) (sym (ap (λ v. v.items) w.more-is)) (c.loop-slot.invariant keys all)
    ]
