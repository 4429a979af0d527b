use Rattle.std.proofs.Common.{ℕ, List, All, subst, sym, arith}
use Rattle.mr_group.specs.Interner.{IsSlotOf}
use Rattle.mr_group.proofs.SlotLemmas.{slot-last, slots-more}
use Rattle.mr_group.proofs.interner.Interner.add.Goals as goal

pub invariant_of-self-2 : goal.invariant_of-self-2
invariant_of-self-2 c =
    let texts : List (List ℕ) = c.self.inside.texts in
    let key : List ℕ = c.args.key.now in
    subst (λ (l : List (List ℕ)). All (IsSlotOf l) c.put.new.slots.items) (sym c.in_ok-push.ensures.ok)
    (c.put.ensures _ (slot-last texts key _ (omega (arith, c.len-number.ensures)) c.length_of.ensures c.placed.ensures)
    (slots-more texts key c.self.inside.slots.items c.self.invariant))
