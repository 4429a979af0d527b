use Rattle.std.proofs.Common.{◌≡◌, ◌<◌, true, length, sym, subst, rules}
use Rattle.mr_core.specs.declared.event.Task.{Task}
use Rattle.mr_core.specs.declared.event.Task.TheVariants.{Map as MapTask, Reduce as ReduceTask}
use Rattle.mr_core.specs.Master.{State, is_active, may_give}
use Rattle.mr_core.proofs.Asks.{active_below}
use Rattle.mr_core.proofs.tables.MasterState.ask.Goals as goal

pub issue_map-requires-clause-may : goal.issue_map-requires-clause-may
issue_map-requires-clause-may c = subst (λ (v : State). may_give c.args.shape v c.args.worker (MapTask c.in-Some-Map.split) ≡ true) (sym c.task_for.ensures.same) (subst (λ (t : Task). may_give c.args.shape c.args.self.now c.args.worker t ≡ true) c.in-Some-Map.field-0-is c.in-Some-Map.ensures.found)

pub issue_map-requires-clause-active : goal.issue_map-requires-clause-active
issue_map-requires-clause-active c =
    let active : is_active c.args.self.now c.args.worker ≡ true = search rules in
    subst (λ (v : State). c.args.worker < length v.lost) (sym c.task_for.ensures.same) (active_below c.args.self.now c.args.worker active)

pub issue_reduce-requires-clause-may : goal.issue_reduce-requires-clause-may
issue_reduce-requires-clause-may c = subst (λ (v : State). may_give c.args.shape v c.args.worker (ReduceTask c.in-Some-Reduce.partition) ≡ true) (sym c.task_for.ensures.same) (subst (λ (t : Task). may_give c.args.shape c.args.self.now c.args.worker t ≡ true) c.in-Some-Reduce.field-0-is c.in-Some-Reduce.ensures.found)

pub issue_reduce-requires-clause-active : goal.issue_reduce-requires-clause-active
issue_reduce-requires-clause-active c =
    let active : is_active c.args.self.now c.args.worker ≡ true = search rules in
    subst (λ (v : State). c.args.worker < length v.lost) (sym c.task_for.ensures.same) (active_below c.args.self.now c.args.worker active)
