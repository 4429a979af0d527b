use Rattle.std.proofs.Common.{Bool, cond, Option, Some, None, ap, sym, ◌∙◌}
use Rattle.mr_core.specs.Master.{State, Attempt, only_live}
use Rattle.mr_core.proofs.Lookups.{found, missed}
use Rattle.mr_core.proofs.tables.MasterState.live.Goals as goal

pub returns-in_err-attempt : goal.returns-in_err-attempt
returns-in_err-attempt c =
    rw c.from_residual.ensures (ap only_live (missed c.as_slice.result.now c.args.self.now.attempts c.args.attempt (c.as_slice.ensures ∙ ap (λ (v : State). v.attempts) c.self.view_is) c.in_err-attempt.ensures.lookup.3))

pub returns-then-is_live : goal.returns-then-is_live
returns-then-is_live c =
    let a : Attempt = c.in_ok-attempt.attempt.now in
    let here = found c.as_slice.result.now c.args.self.now.attempts c.args.attempt a (c.as_slice.ensures ∙ ap (λ (v : State). v.attempts) c.self.view_is) c.in_ok-attempt.ensures.lookup.3.0 c.in_ok-attempt.ensures.lookup.1 in
    ap only_live here ∙ ap (λ (b : Bool). let o : Option Attempt = cond b (Some a) None in o) (sym c.if-is_live.ensures)

pub returns-else-is_live : goal.returns-else-is_live
returns-else-is_live c =
    let a : Attempt = c.in_ok-attempt.attempt.now in
    let here = found c.as_slice.result.now c.args.self.now.attempts c.args.attempt a (c.as_slice.ensures ∙ ap (λ (v : State). v.attempts) c.self.view_is) c.in_ok-attempt.ensures.lookup.3.0 c.in_ok-attempt.ensures.lookup.1 in
    ap only_live here ∙ ap (λ (b : Bool). let o : Option Attempt = cond b (Some a) None in o) (sym c.if-is_live.ensures)
