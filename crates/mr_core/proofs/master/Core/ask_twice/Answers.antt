use Rattle.std.proofs.Common.{◌≡◌, None, refl, subst, rules}
use Rattle.mr_core.specs.declared.event.Event.TheVariants.{Ask}
use Rattle.mr_core.specs.Core.{CoreView, IsStep}
use Rattle.mr_core.proofs.Moves.{ask_step, reach_more}
use Rattle.mr_core.proofs.TouchedTasks.{going, asked_settled}
use Rattle.mr_core.proofs.master.Core.ask_twice.Goals as goal

pub ask-requires : goal.ask-requires
ask-requires c =
    let none : c.self.inside.tables.end ≡ None = search rules in
    going c.self.inside.shape c.self.inside.tables c.self.invariant.0 c.self.invariant.1 none

pub invariant_of-self-2 : goal.invariant_of-self-2
invariant_of-self-2 c =
    let none : c.self.inside.tables.end ≡ None = search rules in
    let same = asked_settled c.self.inside.shape c.self.inside.tables c.args.worker c.in_ok-reply.reply c.ask.new.self c.self.invariant.0 c.self.invariant.1 none c.in_ok-reply.ensures.ok in
    let step = ask_step c.self.inside.shape c.self.inside.tables c.args.worker c.in_ok-reply.reply c.ask.new.self c.ask.new.self none c.in_ok-reply.ensures.ok same in
    (c.self.invariant.0, reach_more c.self.inside.shape c.self.inside.tables (Ask c.args.worker) c.in_ok-reply.reply c.ask.new.self c.self.invariant.1 step)

pub returns-clause-ok : goal.returns-clause-ok
returns-clause-ok c =
    let none : c.self.inside.tables.end ≡ None = search rules in
    let same = asked_settled c.self.inside.shape c.self.inside.tables c.args.worker c.in_ok-reply.reply c.ask.new.self c.self.invariant.0 c.self.invariant.1 none c.in_ok-reply.ensures.ok in
    let step = ask_step c.self.inside.shape c.self.inside.tables c.args.worker c.in_ok-reply.reply c.ask.new.self c.ask.new.self none c.in_ok-reply.ensures.ok same in
    subst (λ (old : CoreView). IsStep old (Ask c.args.worker) c.in_ok-reply.reply (record { shape = c.self.inside.shape; state = c.ask.new.self })) c.self.view_is (refl, step)
