use Rattle.std.proofs.Common.{◌≡◌, None, refl, rules}
use Rattle.mr_core.specs.declared.event.Event.TheVariants.{MapFailed}
use Rattle.mr_core.proofs.TouchedTasks.{touched}
use Rattle.mr_core.proofs.Moves.{report_step, reach_more}
use Rattle.mr_core.proofs.master.Core.map_failed.Goals as goal

pub invariant_of-self-2 : goal.invariant_of-self-2
invariant_of-self-2 c =
    let none : c.self.inside.tables.end ≡ None = search rules in
    let step = report_step c.self.inside.shape c.self.inside.tables (MapFailed c.args.attempt c.args.number) c.in_ok-reply.reply c.map_failed.new.self c.in_ok-reply.over c.settle_at.new.self tt none c.in_ok-reply.ensures.ok c.settle_at.ensures in
    (c.self.invariant.0, reach_more c.self.inside.shape c.self.inside.tables (MapFailed c.args.attempt c.args.number) c.in_ok-reply.reply c.settle_at.new.self c.self.invariant.1 step)

pub settle_at-requires : goal.settle_at-requires
settle_at-requires c =
    let none : c.self.inside.tables.end ≡ None = search rules in
    touched c.self.inside.shape c.self.inside.tables c.args.attempt (MapFailed c.args.attempt c.args.number) refl c.self.invariant.0 c.self.invariant.1 none c.in_ok-reply.reply c.map_failed.new.self c.in_ok-reply.over c.task_at-task.result c.in_ok-reply.ensures.ok c.task_at-task.ensures
