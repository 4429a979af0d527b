use Rattle.std.proofs.Common.{◌≡◌, ◌∷◌, ◌++◌, ◌-◌, ℕ, List, [], ap, arith, get_or, length, length-append, rules, subst, sym}
use Rattle.std.specs.Prelude.{Option}
use Rattle.mr_tickets.specs.Pieces.{AllSlots, IsSlot}
use Rattle.mr_tickets.proofs.Slots.{each_more, slot_last, slots_front}
use Rattle.mr_tickets.proofs.drawing.take_all.Goals as goal

pub loop-slot-preserved : goal.loop-slot-preserved
loop-slot-preserved g c =
    let gives = g.W.WorkPieces.gives c.args.all.now in
    let n = c.args.count in
    let i = c.loop-slot.invariant in
    let was = c.loop-slot.outs.items in
    let rest = c.pop.new.self.items in
    let out = c.in-Some-slot.out in
    let slots = subst (λ (l : List (Option g.row.W-Out.Denot)). AllSlots gives [] n l) c.in-Some.ensures.items i.slots in
    let pushed : c.push.new.self.items ≡ was ++ out ∷ [] = search rules in
    let here : n - 1 - length rest ≡ length was = omega (arith, i.len, c.in-Some.ensures.len, c.loop-slot.outs.ok, c.pop.new.self.ok) in
    let given : gives (length was) out = subst (λ (p : ℕ). gives p out) here (subst (IsSlot gives [] (n - 1 - length rest)) c.in-Some-slot.is (slot_last gives n rest c.in-Some.slot slots)) in
    record {
      len = omega (arith, i.len, c.in-Some.ensures.len, ap length pushed, length-append was (out ∷ []), c.loop-slot.outs.ok, c.push.new.self.ok);
      slots = slots_front gives n rest c.in-Some.slot slots;
      each = λ p d less. subst (λ (l : List g.row.W-Out.Denot). gives p (get_or l p d)) (sym pushed)
          (each_more gives was out (λ q e less. i.each q e (omega (arith, less, c.loop-slot.outs.ok))) given p d (omega (arith, less, ap length pushed, c.push.new.self.ok)));
    }
