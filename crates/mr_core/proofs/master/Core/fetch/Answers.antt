use Rattle.std.proofs.Common.{◌≡◌, refl, subst, false, None, rules}
use Rattle.mr_core.specs.declared.event.Event.TheVariants.{Fetch}
use Rattle.mr_core.specs.Core.{CoreView, IsStep}
use Rattle.mr_core.proofs.TouchedTasks.{touched}
use Rattle.mr_core.proofs.Moves.{report_step, reach_more}
use Rattle.mr_core.proofs.master.Core.fetch.Goals as goal

pub invariant_of-self : goal.invariant_of-self
invariant_of-self c =
    let none : c.self.inside.tables.end ≡ None = search rules in
    let step = report_step c.self.inside.shape c.self.inside.tables (Fetch c.args.attempt c.args.map) c.fetch-reply.result c.fetch-reply.new.self false c.settle_at.new.self tt none (c.fetch-reply.ensures c.self.inside.shape) c.settle_at.ensures in
    (c.self.invariant.0, reach_more c.self.inside.shape c.self.inside.tables (Fetch c.args.attempt c.args.map) c.fetch-reply.result c.settle_at.new.self c.self.invariant.1 step)

pub returns : goal.returns
returns c =
    let none : c.self.inside.tables.end ≡ None = search rules in
    let step = report_step c.self.inside.shape c.self.inside.tables (Fetch c.args.attempt c.args.map) c.fetch-reply.result c.fetch-reply.new.self false c.settle_at.new.self tt none (c.fetch-reply.ensures c.self.inside.shape) c.settle_at.ensures in
    subst (λ (old : CoreView). IsStep old (Fetch c.args.attempt c.args.map) c.fetch-reply.result (record { shape = c.self.inside.shape; state = c.settle_at.new.self })) c.self.view_is (refl, step)

pub settle_at-requires : goal.settle_at-requires
settle_at-requires c =
    let none : c.self.inside.tables.end ≡ None = search rules in
    touched c.self.inside.shape c.self.inside.tables c.args.attempt (Fetch c.args.attempt c.args.map) refl c.self.invariant.0 c.self.invariant.1 none c.fetch-reply.result c.fetch-reply.new.self false c.task_at-task.result (c.fetch-reply.ensures c.self.inside.shape) c.task_at-task.ensures
