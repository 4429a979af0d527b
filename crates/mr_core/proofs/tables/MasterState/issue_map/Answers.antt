use Rattle.std.proofs.Common.{ℕ, ◌<◌, List, [], true, length, ap, sym, ◌∙◌, subst}
use Rattle.std.proofs.lemmas.Result.{IfOk-from_err, err_from_is_err_and}
use Rattle.mr_core.specs.Index.{IsBelow}
use Rattle.mr_core.specs.Master.{State, Attempt, has_live}
use Rattle.mr_core.specs.Looks.{split_set}
use Rattle.mr_core.proofs.Asks.{given_map, free_of_may, task_below}
use Rattle.mr_core.specs.declared.event.Task.TheVariants.{Map as MapTask}
use Rattle.mr_core.proofs.tables.MasterState.issue_map.Goals as goal

pub returns-clause-ok : goal.returns-clause-ok
returns-clause-ok c =
    let number = ap length c.as_slice.ensures ∙ ap (λ (v : State). length v.attempts) c.self.view_is in
    let same = c.in_ok-issued.ensures ∙ ap (λ (k : List ℕ). let at : Attempt = record { worker = c.args.worker; task = MapTask c.args.split; skips = k; fetched = []; live = true } in at) c.as_slice-3.ensures in
    given_map c.args.shape c.args.self.now c.args.worker (length c.as_slice.result.now) c.args.split _ c.in_ok-issued.issued c.push.new.self number c.requires.may (task_below c.args.shape c.args.self.now c.args.worker (MapTask c.args.split) c.requires.going c.requires.may) (λ sp at. c.in_ok-skips.ensures ∙ c.set.ensures ∙ ap split_set at) same c.in_ok-push.ensures.ok

pub push-requires-clause-live : goal.push-requires-clause-live
push-requires-clause-live c = ap (λ (a : Attempt). a.live) c.in_ok-issued.ensures

pub push-requires-clause-free : goal.push-requires-clause-free
push-requires-clause-free c =
    ap (λ (a : Attempt). has_live c.args.self.now a.worker) c.in_ok-issued.ensures
    ∙ free_of_may c.args.shape c.args.self.now c.args.worker (MapTask c.args.split) c.requires.may

pub push-requires-clause-worker : goal.push-requires-clause-worker
push-requires-clause-worker c = subst (λ (a : Attempt). a.worker < length c.args.self.now.lost) (sym c.in_ok-issued.ensures) c.requires.active

pub push-requires-clause-task : goal.push-requires-clause-task
push-requires-clause-task c =
    subst (λ (a : Attempt). IsBelow (length c.args.self.now.splits) (length c.args.self.now.committed) a.task) (sym c.in_ok-issued.ensures)
    (task_below c.args.shape c.args.self.now c.args.worker (MapTask c.args.split) c.requires.going c.requires.may)

pub returns-in_err-push-clause-err : goal.returns-in_err-push-clause-err
returns-in_err-push-clause-err c =
    let p = err_from_is_err_and c.from_residual-in_err-push.result c.from_residual-in_err-push.ensures.1 in
    rw p.1 c.in_err-push.ensures.err

pub returns-in_err-skips-clause-ok : goal.returns-in_err-skips-clause-ok
returns-in_err-skips-clause-ok c = IfOk-from_err c.from_residual.result _ c.from_residual.ensures.0

pub returns-in_err-skips-clause-twice : goal.returns-in_err-skips-clause-twice
returns-in_err-skips-clause-twice c = IfOk-from_err c.from_residual.result _ c.from_residual.ensures.0

pub returns-in_err-again-clause-ok : goal.returns-in_err-again-clause-ok
returns-in_err-again-clause-ok c = IfOk-from_err c.from_residual-in_err-again.result _ c.from_residual-in_err-again.ensures.0

pub returns-in_err-again-clause-twice : goal.returns-in_err-again-clause-twice
returns-in_err-again-clause-twice c = IfOk-from_err c.from_residual-in_err-again.result _ c.from_residual-in_err-again.ensures.0

pub returns-in_err-issued-clause-ok : goal.returns-in_err-issued-clause-ok
returns-in_err-issued-clause-ok c = IfOk-from_err c.from_residual-in_err-issued.result _ c.from_residual-in_err-issued.ensures.0

pub returns-in_err-issued-clause-twice : goal.returns-in_err-issued-clause-twice
returns-in_err-issued-clause-twice c = IfOk-from_err c.from_residual-in_err-issued.result _ c.from_residual-in_err-issued.ensures.0

pub returns-in_err-push-clause-ok : goal.returns-in_err-push-clause-ok
returns-in_err-push-clause-ok c = IfOk-from_err c.from_residual-in_err-push.result _ c.from_residual-in_err-push.ensures.0

pub returns-in_err-push-clause-twice : goal.returns-in_err-push-clause-twice
returns-in_err-push-clause-twice c = IfOk-from_err c.from_residual-in_err-push.result _ c.from_residual-in_err-push.ensures.0
