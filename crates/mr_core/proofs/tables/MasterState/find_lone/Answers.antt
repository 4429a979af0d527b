use Rattle.std.proofs.Common.{◌≡◌, Some, slice_get, ap, sym, ◌∙◌, arith}
use Rattle.mr_core.specs.Master.{State}
use Rattle.mr_core.specs.Queries.{is_lone}
use Rattle.mr_core.proofs.BackupTasks.{none_lone, lone_more}
use Rattle.mr_core.proofs.tables.MasterState.find_lone.Goals as goal
use Rattle.mr_core.proofs.tables.MasterState.find_lone.Goals.{in-Some+else-is_lone, in_default}

pub loop-worker-preserved : goal.loop-worker-preserved
loop-worker-preserved c =
    lone_more c.args.shape c.args.self.now c.loop-worker.worker c.current_task.result c.loop-worker.invariant c.current_task.ensures.only
    (λ t e. elim c.match-current_task.branch [
      | in-Some+else-is_lone w ↦ (let same : Some w.in-Some.task ≡ Some t = sym w.in-Some.is ∙ e in let is : w.in-Some.task ≡ t = cc same in ap (is_lone c.args.shape c.args.self.now) (sym is) ∙ (sym w.is_lone.ensures ∙ w.if-is_lone.false))
      | in_default w ↦ absurd (cc (w.in_default.is, e))
    ])

pub returns : goal.returns
returns c =
    none_lone c.args.shape c.args.self.now (λ a x at live.
    let here : slice_get c.self.inside.attempts.items a ≡ Some x = ap (λ (v : State). slice_get v.attempts a) c.self.view_is ∙ at in
    let low = c.workers-worker-end.ensures.all a x here live in
    let count = c.workers-worker-end.ensures.count in
    c.loop-worker.invariant a x (omega (arith, low, count)) at live)
