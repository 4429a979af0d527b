use Rattle.std.proofs.Common.{◌≡◌, ◌∷◌, [], true, ap, sym, subst, arith, length, length-append}
use Rattle.std.specs.Prelude.{All, IfOk}
use Rattle.std.proofs.lemmas.List.Elements.{All-append}
use Rattle.mr_tickets.specs.Views.{SeatView, IsSeatOf}
use Rattle.mr_tickets.specs.Drawn.{weigh, total}
use Rattle.mr_tickets.specs.declared.drawing.Found.{Found}
use Rattle.mr_tickets.specs.Pieces.{numbers_of, AllGiven, IsDone}
use Rattle.mr_tickets.proofs.Slots.{all_last, all_front, all_more, weigh_pieces, total_more}
use Rattle.mr_tickets.proofs.drawing.gather.Goals as goal

pub loop-done-preserved : goal.loop-done-preserved
loop-done-preserved g c =
    let gives = g.W.WorkPieces.gives c.args.all.now in
    let t = c.args.tickets in
    let i = c.loop-done.invariant in
    let e = c.in-Some.ensures.items in
    let dones = subst (All (λ r. IfOk r (IsDone gives t))) e i.done in
    let last = all_last (λ r. IfOk r (IsDone gives t)) c.pop.new.self.items c.in-Some.done dones in
    let d = subst (λ r. IfOk r (IsDone gives t)) c.in_ok-done.was last in
    let done = c.in_ok-done.done in
    let pushed = c.in_ok-take_in.ensures.seats in
    let appended = c.in_ok-take_in.ensures.found in
    let old_seats = c.loop-done.seats.items in
    let old_found = c.loop-done.found.items in
    record {
      count = omega (arith, i.count, c.in-Some.ensures.len, ap (length {A = SeatView}) pushed, length-append old_seats (done.seat ∷ []), c.loop-done.seats.ok, c.take_in.new.seats.ok);
      done = all_front (λ r. IfOk r (IsDone gives t)) c.pop.new.self.items c.in-Some.done dones;
      seats = subst (All (IsSeatOf t)) (sym pushed) (all_more (IsSeatOf t) old_seats done.seat i.seats d.seat);
      told = subst (All (λ (s : SeatView). s.told ≡ true)) (sym pushed) (all_more (λ (s : SeatView). s.told ≡ true) old_seats done.seat i.told d.told);
      sums = λ h.
          (let drawn : weigh h (numbers_of done.found.items) ≡ weigh h done.seat.drawn = ap (weigh h) d.drawn in
          let a = weigh_pieces h old_found done.found.items in
          let b = total_more (λ (s : SeatView). weigh h s.drawn) old_seats done.seat in
          let x = ap (λ l. weigh h (numbers_of l)) appended in
          let y = ap (total (λ (s : SeatView). weigh h s.drawn)) pushed in
          let z = i.sums h in
          omega (arith, drawn, a, b, x, y, z));
      given = subst (AllGiven gives) (sym appended) (All-append (λ (f : Found g.row.W-Out.Denot). gives f.piece f.out) old_found done.found.items i.given d.given);
    }
