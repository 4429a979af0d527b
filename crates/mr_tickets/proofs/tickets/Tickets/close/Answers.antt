use Rattle.std.proofs.Common.{◌≡◌, ℕ, List, ◌++◌, ◌+◌, Bool, true, sym, ap, ◌∙◌, subst, arith}
use Rattle.std.specs.Prelude.{All, if◌then◌else◌}
use Rattle.mr_tickets.specs.Drawn.{weigh, past, total, kept}
use Rattle.mr_tickets.specs.Views.{SeatView, IsSeatOf}
use Rattle.mr_tickets.proofs.Sums.{total_more, weigh_append, kept_append}
use Rattle.mr_tickets.proofs.Moves.{joins}
use Rattle.mr_tickets.proofs.Seats.{all_last, all_front, total_empty, closes}
use Rattle.mr_tickets.proofs.tickets.Tickets.close.Goals as goal

pub loop-seat-init : goal.loop-seat-init
loop-seat-init c =
    let self = c.args.self in
    let e = c.in-Some.ensures.items in
    let into = c.into_seat-base.ensures in
    let rest = c.pop.new.self.items in
    let seat = c.in-Some.seat in
    let mine = subst (All (IsSeatOf self)) e c.requires.mine in
    let last : IsSeatOf self seat = all_last (IsSeatOf self) rest seat mine in
    record {
      same = into.table ∙ last.0 ∙ sym (ap (λ v. v.table) c.self.view_is);
      words = c.self.invariant.0;
      slots = into.one.0;
      parts = omega (arith, into.one.1, c.requires.all, c.in-Some.ensures.len);
      mine = all_front (IsSeatOf self) rest seat mine;
      told = λ all.
          (let told = all_last (λ (s : SeatView). s.told ≡ true) rest seat (subst (All (λ (s : SeatView). s.told ≡ true)) e all) in
          let one : weigh (past self.limit) c.into_seat-base.result.me.0.drawn ≡ 1 = ap (λ (n : ℕ). weigh (past n) c.into_seat-base.result.me.0.drawn) (sym last.1) ∙ into.told ∙ ap (λ (b : Bool). if b then 1 else 0) told in
          omega (arith, one));
      sums = λ h.
          (let t = total_more (λ (s : SeatView). weigh h s.drawn) rest seat in
          let k : weigh h (kept self.limit c.into_seat-base.result.me.0.drawn) ≡ weigh h seat.drawn = ap (λ (n : ℕ). weigh h (kept n c.into_seat-base.result.me.0.drawn)) (sym last.1) ∙ ap (weigh h) into.drawn in
          omega (arith, t, k, ap (total (λ (s : SeatView). weigh h s.drawn)) e));
    }

pub join_seat-requires : goal.join_seat-requires
join_seat-requires c =
    let self = c.args.self in
    let i = c.loop-seat.invariant in
    let last = all_last (IsSeatOf self) c.pop-in-loop-seat.new.self.items c.in-Some-pop.seat (subst (All (IsSeatOf self)) c.in-Some-pop.ensures.items i.mine) in
    (i.same, c.into_seat.ensures.table ∙ last.0 ∙ sym (ap (λ v. v.table) c.self.view_is), c.into_seat.ensures.one.0, omega (arith, i.words), joins _ _ _ _ _)

pub loop-seat-preserved : goal.loop-seat-preserved
loop-seat-preserved c =
    let self = c.args.self in
    let i = c.loop-seat.invariant in
    let e = c.in-Some-pop.ensures.items in
    let into = c.into_seat.ensures in
    let rest = c.pop-in-loop-seat.new.self.items in
    let seat = c.in-Some-pop.seat in
    let mine = subst (All (IsSeatOf self)) e i.mine in
    let last : IsSeatOf self seat = all_last (IsSeatOf self) rest seat mine in
    let join = c.join_seat.ensures in
    let a : List ℕ = c.loop-seat.base.me.0.drawn in
    let b : List ℕ = c.into_seat.result.me.0.drawn in
    let now : c.join_seat.new.seat.me.0.drawn ≡ a ++ b = ap (λ m. m.0.drawn) join.2 in
    record {
      same = join.0 ∙ i.same;
      words = i.words;
      slots = ap (λ m. m.1) join.2 ∙ i.slots;
      parts = omega (arith, ap (λ m. m.0.parts) join.2, into.one.1, i.parts, c.in-Some-pop.ensures.len);
      mine = all_front (IsSeatOf self) rest seat mine;
      told = λ all. omega (arith, i.told all, weigh_append (past self.limit) a b, ap (weigh (past self.limit)) now);
      sums = λ h.
          (let t = total_more (λ (s : SeatView). weigh h s.drawn) rest seat in
          let k : weigh h (kept self.limit b) ≡ weigh h seat.drawn = ap (λ (n : ℕ). weigh h (kept n b)) (sym last.1) ∙ ap (weigh h) into.drawn in
          let j : weigh h (kept self.limit c.join_seat.new.seat.me.0.drawn) ≡ weigh h (kept self.limit a) + weigh h (kept self.limit b) = ap (λ l. weigh h (kept self.limit l)) now ∙ ap (weigh h) (kept_append self.limit a b) ∙ weigh_append h (kept self.limit a) (kept self.limit b) in
          omega (arith, t, k, j, i.sums h, ap (total (λ (s : SeatView). weigh h s.drawn)) e));
    }

pub returns : goal.returns
returns c = λ all h.
    (let self = c.args.self in
    let i = c.loop-seat.invariant in
    let last = c.close_with.ensures.values.2 in
    let parts : c.loop-seat.base.me.0.parts ≡ c.self.inside.table.shared.key.seats = omega (arith, i.parts, c.in_default-pop.ensures.cases, ap (λ v. v.seats) c.self.view_is) in
    let done = closes c.self.inside.table.shared.key last.0 c.loop-seat.base.id c.loop-seat.base.me.0 self.limit last.1.0 last.1.1 parts (i.told all) h in
    let none = total_empty (λ (s : SeatView). weigh h s.drawn) c.loop-seat.seats.items (omega (arith, c.loop-seat.seats.ok, c.in_default-pop.ensures.cases)) in
    omega (arith, i.sums h, done, none))
