use Rattle.std.proofs.Common.{◌∙◌, ◌≡◌, List, [], ap, arith, drop, length, sym, subst}
use Rattle.std.specs.Prelude.{None, Option}
use Rattle.std.proofs.lemmas.List.{length-replicate, take-append-le, take_all}
use Rattle.mr_tickets.specs.Pieces.{AllSlots}
use Rattle.mr_tickets.proofs.Slots.{all_in_range, starts}
use Rattle.mr_tickets.proofs.drawing.in_order.Goals as goal

pub fill-requires-clause-len : goal.fill-requires-clause-len
fill-requires-clause-len g c κs inside = ap length (c.as_mut_slice.ensures.value ∙ c.in_ok-slots.ensures) ∙ length-replicate c.args.count None

pub fill-requires-clause-given : goal.fill-requires-clause-given
fill-requires-clause-given g c κs inside = c.requires.given

pub fill-requires-clause-within : goal.fill-requires-clause-within
fill-requires-clause-within g c κs inside = all_in_range c.args.count _ c.requires.once

pub fill-requires-clause-slots : goal.fill-requires-clause-slots
fill-requires-clause-slots g c κs inside = starts (g.W.WorkPieces.gives c.args.all.now) c.args.count _ c.requires.once _ (c.as_mut_slice.ensures.value ∙ c.in_ok-slots.ensures)

pub take_all-requires-clause-len : goal.take_all-requires-clause-len
take_all-requires-clause-len g c κs inside =
    let none : Option g.row.W-Out.Denot = None in
    omega (arith, c.in_ok-slots.slots.ok, ap length c.in_ok-slots.ensures, length-replicate c.args.count none)

pub take_all-requires-clause-slots : goal.take_all-requires-clause-slots
take_all-requires-clause-slots g c κs inside =
    let n = c.in_ok-slots.slots.len in
    let now = c.fill.new.slots in
    let same : length now ≡ n = omega (arith, c.fill.auto.slots, ap length c.as_mut_slice.ensures.value, c.in_ok-slots.slots.ok) in
    subst (λ (l : List (Option g.row.W-Out.Denot)). AllSlots (g.W.WorkPieces.gives c.args.all.now) [] c.args.count l)
    (sym (take-append-le n now (drop (length now) c.in_ok-slots.slots.items) (omega arith) ∙ take_all n now (omega arith))) c.fill.ensures

pub returns-clause-len : goal.returns-clause-len
returns-clause-len g c = c.take_all.ensures.len

pub returns-clause-each : goal.returns-clause-each
returns-clause-each g c = c.take_all.ensures.each
