use Rattle.std.proofs.Common.{◌≡◌, Option, refl, sym, subst, false, None, rules}
use Rattle.mr_core.specs.declared.event.Event.TheVariants.{Damaged}
use Rattle.mr_core.specs.declared.event.Task.{Task}
use Rattle.mr_core.specs.Index.{IsTouched}
use Rattle.mr_core.specs.Core.{CoreView, IsStep}
use Rattle.mr_core.proofs.TouchedTasks.{touched_both}
use Rattle.mr_core.proofs.Moves.{report_step, reach_more}
use Rattle.mr_core.proofs.master.Core.damaged.Goals as goal

pub invariant_of-self : goal.invariant_of-self
invariant_of-self c =
    let none : c.self.inside.tables.end ≡ None = search rules in
    let step = report_step c.self.inside.shape c.self.inside.tables (Damaged c.args.attempt c.args.map) c.damaged-reply.result c.damaged-reply.new.self false c.settle_at.new.self tt none (c.damaged-reply.ensures c.self.inside.shape) c.settle_at.ensures in
    (c.self.invariant.0, reach_more c.self.inside.shape c.self.inside.tables (Damaged c.args.attempt c.args.map) c.damaged-reply.result c.settle_at.new.self c.self.invariant.1 step)

pub returns : goal.returns
returns c =
    let none : c.self.inside.tables.end ≡ None = search rules in
    let step = report_step c.self.inside.shape c.self.inside.tables (Damaged c.args.attempt c.args.map) c.damaged-reply.result c.damaged-reply.new.self false c.settle_at.new.self tt none (c.damaged-reply.ensures c.self.inside.shape) c.settle_at.ensures in
    subst (λ (old : CoreView). IsStep old (Damaged c.args.attempt c.args.map) c.damaged-reply.result (record { shape = c.self.inside.shape; state = c.settle_at.new.self })) c.self.view_is (refl, step)

pub settle_at-requires : goal.settle_at-requires
settle_at-requires c =
    let none : c.self.inside.tables.end ≡ None = search rules in
    subst (λ (o : Option Task). IsTouched c.self.inside.shape c.damaged-reply.new.self c.task_at-task.result o) (sym c.then_some-other.ensures)
    (touched_both c.self.inside.shape c.self.inside.tables c.args.attempt c.args.map c.self.invariant.0 c.self.invariant.1 none c.damaged-reply.result c.damaged-reply.new.self c.task_at-task.result (c.damaged-reply.ensures c.self.inside.shape) c.task_at-task.ensures)
