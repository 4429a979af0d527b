use Rattle.std.proofs.Common.{◌<◌, length, ap, sym, ◌∙◌, subst}
use Rattle.std.proofs.lemmas.Result.{IfOk-from_err, err_from_is_err_and}
use Rattle.mr_core.specs.Index.{IsBelow}
use Rattle.mr_core.specs.Master.{Attempt, has_live}
use Rattle.mr_core.specs.declared.event.Task.TheVariants.{Reduce as ReduceTask}
use Rattle.mr_core.proofs.Asks.{free_of_may, task_below}
use Rattle.mr_core.proofs.tables.MasterState.issue_reduce.Goals as goal

pub push-requires-clause-live : goal.push-requires-clause-live
push-requires-clause-live c = ap (λ (a : Attempt). a.live) c.in_ok-issued.ensures

pub push-requires-clause-free : goal.push-requires-clause-free
push-requires-clause-free c =
    ap (λ (a : Attempt). has_live c.args.self.now a.worker) c.in_ok-issued.ensures
    ∙ free_of_may c.args.shape c.args.self.now c.args.worker (ReduceTask c.args.partition) c.requires.may

pub push-requires-clause-worker : goal.push-requires-clause-worker
push-requires-clause-worker c = subst (λ (a : Attempt). a.worker < length c.args.self.now.lost) (sym c.in_ok-issued.ensures) c.requires.active

pub push-requires-clause-task : goal.push-requires-clause-task
push-requires-clause-task c =
    subst (λ (a : Attempt). IsBelow (length c.args.self.now.splits) (length c.args.self.now.committed) a.task) (sym c.in_ok-issued.ensures)
    (task_below c.args.shape c.args.self.now c.args.worker (ReduceTask c.args.partition) c.requires.going c.requires.may)

pub returns-in_err-push-clause-err : goal.returns-in_err-push-clause-err
returns-in_err-push-clause-err c =
    let p = err_from_is_err_and c.from_residual-in_err-push.result c.from_residual-in_err-push.ensures.1 in
    rw p.1 c.in_err-push.ensures.err

pub returns-in_err-issued-clause-ok : goal.returns-in_err-issued-clause-ok
returns-in_err-issued-clause-ok c = IfOk-from_err c.from_residual.result _ c.from_residual.ensures.0

pub returns-in_err-issued-clause-twice : goal.returns-in_err-issued-clause-twice
returns-in_err-issued-clause-twice c = IfOk-from_err c.from_residual.result _ c.from_residual.ensures.0

pub returns-in_err-push-clause-ok : goal.returns-in_err-push-clause-ok
returns-in_err-push-clause-ok c = IfOk-from_err c.from_residual-in_err-push.result _ c.from_residual-in_err-push.ensures.0

pub returns-in_err-push-clause-twice : goal.returns-in_err-push-clause-twice
returns-in_err-push-clause-twice c = IfOk-from_err c.from_residual-in_err-push.result _ c.from_residual-in_err-push.ensures.0
