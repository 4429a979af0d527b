use Rattle.std.proofs.Common.{arith}
use Rattle.mr_certform.specs.Walking.{items_left, halt}
use Rattle.mr_certform.proofs.Fuel.{items_none, item_step, end_step, taken_none, taken_step}
use Rattle.mr_certform.proofs.walker.Walker.next.Goals as goal

pub returns-in-None-clause-item : goal.returns-in-None-clause-item
unfolding items_left halt
returns-in-None-clause-item c =
    let v = c.args.self.now in
    let none = items_none v.version v.place v.rest.now c.in-None.ensures.read in
    (none, none, omega (arith, taken_none v.version v.place v.rest.now c.in-None.ensures.read))

pub returns-in-Some-clause-item : goal.returns-in-Some-clause-item
unfolding items_left halt
returns-in-Some-clause-item c =
    let v = c.args.self.now in
    let n = c.in-Some in
    item_step v.version v.place n.place v.rest.now n.rest.now n.item n.ensures.read n.ensures.place

pub returns-in-Some-clause-end : goal.returns-in-Some-clause-end
unfolding items_left halt
returns-in-Some-clause-end c = λ e.
    let v = c.args.self.now in
    let n = c.in-Some in
    end_step v.version v.place n.place v.rest.now n.rest.now n.item n.ensures.read n.ensures.place (cc e)

pub returns-in-Some-clause-stop : goal.returns-in-Some-clause-stop
unfolding items_left halt
returns-in-Some-clause-stop c =
    let v = c.args.self.now in
    let n = c.in-Some in
    omega (arith, v.in_range, n.ensures.shorter, taken_step v.version v.place n.place v.rest.now n.rest.now n.item n.ensures.read n.ensures.place)
