use Rattle.std.proofs.Common.{◌≡◌, refl, subst, false, None, rules}
use Rattle.mr_core.specs.declared.event.Event.TheVariants.{MapDone}
use Rattle.mr_core.specs.Core.{CoreView, IsStep}
use Rattle.mr_core.proofs.TouchedTasks.{touched}
use Rattle.mr_core.proofs.Moves.{report_step, reach_more}
use Rattle.mr_core.proofs.master.Core.map_done.Goals as goal

pub invariant_of-self : goal.invariant_of-self
invariant_of-self c =
    let none : c.self.inside.tables.end ≡ None = search rules in
    let step = report_step c.self.inside.shape c.self.inside.tables (MapDone c.args.attempt c.args.output) c.map_done-reply.result c.map_done-reply.new.self false c.settle_at.new.self tt none (c.map_done-reply.ensures c.self.inside.shape) c.settle_at.ensures in
    (c.self.invariant.0, reach_more c.self.inside.shape c.self.inside.tables (MapDone c.args.attempt c.args.output) c.map_done-reply.result c.settle_at.new.self c.self.invariant.1 step)

pub returns : goal.returns
returns c =
    let none : c.self.inside.tables.end ≡ None = search rules in
    let step = report_step c.self.inside.shape c.self.inside.tables (MapDone c.args.attempt c.args.output) c.map_done-reply.result c.map_done-reply.new.self false c.settle_at.new.self tt none (c.map_done-reply.ensures c.self.inside.shape) c.settle_at.ensures in
    subst (λ (old : CoreView). IsStep old (MapDone c.args.attempt c.args.output) c.map_done-reply.result (record { shape = c.self.inside.shape; state = c.settle_at.new.self })) c.self.view_is (refl, step)

pub settle_at-requires : goal.settle_at-requires
settle_at-requires c =
    let none : c.self.inside.tables.end ≡ None = search rules in
    touched c.self.inside.shape c.self.inside.tables c.args.attempt (MapDone c.args.attempt c.args.output) refl c.self.invariant.0 c.self.invariant.1 none c.map_done-reply.result c.map_done-reply.new.self false c.task_at-task.result (c.map_done-reply.ensures c.self.inside.shape) c.task_at-task.ensures
