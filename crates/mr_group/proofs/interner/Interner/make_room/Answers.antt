use Rattle.std.proofs.Common.{List, All, subst, sym}
use Rattle.mr_group.specs.Interner.{IsSlotOf}
use Rattle.mr_group.specs.declared.slots.Slot.{Slot}
use Rattle.mr_group.proofs.interner.Interner.make_room.Goals as goal

pub invariant_of-self : goal.invariant_of-self
invariant_of-self c =
    c.in_ok-self-inside.ensures c.self.inside.texts
    (subst (λ (l : List Slot). All (IsSlotOf c.self.inside.texts) l) (sym c.as_slice.ensures.value) c.self.invariant)
