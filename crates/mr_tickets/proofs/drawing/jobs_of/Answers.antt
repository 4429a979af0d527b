use Rattle.std.proofs.Common.{◌≡◌, ◌∷◌, ◌++◌, [], ap, arith, length, length-append, rules, subst, sym}
use Rattle.std.specs.Prelude.{All}
use Rattle.mr_tickets.specs.Views.{IsSeatOf, SeatView}
use Rattle.mr_tickets.specs.declared.drawing.Job.{Job}
use Rattle.mr_tickets.specs.Pieces.{IsFresh}
use Rattle.mr_tickets.proofs.Slots.{all_front, all_last, all_more}
use Rattle.mr_tickets.proofs.drawing.jobs_of.Goals as goal

pub loop-seat-preserved : goal.loop-seat-preserved
loop-seat-preserved c =
    let i = c.loop-seat.invariant in
    let was = c.loop-seat.jobs.items in
    let rest = c.pop.new.self.items in
    let fresh = λ (s : SeatView). IsSeatOf c.args.tickets.now s × (s.drawn ≡ []) in
    let left = subst (All fresh) c.in-Some.ensures.items i.left in
    let job : Job = record { worker = c.len-worker.result; seat = c.in-Some.seat } in
    let pushed : c.push.new.self.items ≡ was ++ job ∷ [] = search rules in
    record {
      count = omega (arith, i.count, c.in-Some.ensures.len, ap length pushed, length-append was (job ∷ []), c.loop-seat.jobs.ok, c.push.new.self.ok);
      left = all_front fresh rest c.in-Some.seat left;
      fresh = subst (All (IsFresh c.args.tickets.now)) (sym pushed) (all_more (IsFresh c.args.tickets.now) was job i.fresh (all_last fresh rest c.in-Some.seat left));
    }
