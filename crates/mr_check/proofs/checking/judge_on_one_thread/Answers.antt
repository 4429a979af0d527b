use Rattle.std.proofs.Common.{sym, ◌∙◌, subst, arith}
use Rattle.std.specs.Prelude.{Ok}
use Rattle.mr_input.specs.Files.{contents}
use Rattle.mr_certform.specs.declared.grammar_state.GrammarState.TheVariants.{AtMagic}
use Rattle.mr_judge.specs.Kinds.{InKind}
use Rattle.mr_judge.proofs.KindLemmas.{kinds_of}
use Rattle.mr_judge.proofs.JudgeLemmas.{as_many}
use Rattle.mr_verdict.proofs.HeadlineLemmas.{certified}
use Rattle.mr_check.proofs.checking.judge_on_one_thread.Goals as goal

pub accept-requires-clause-front : goal.accept-requires-clause-front
accept-requires-clause-front g c is at e = subst (InKind AtMagic) (sym (e.0 ∙ c.walk-items.ensures.items)) (kinds_of c.args.case.now.certificate.now)

pub returns-in-Some-clause-yes : goal.returns-in-Some-clause-yes
returns-in-Some-clause-yes g c =
    let j = c.in-Some.ensures in
    let e = j.1.1.0 in
    j.1.1.1.0 c.args.case.now.certificate.now (record { bytes_are = c.walk-items.ensures.bytes; items_are = e.0 ∙ c.walk-items.ensures.items; stop_is = e.1 ∙ c.walk-items.ensures.stop })
    (as_many c.args.case.now.outputs.now c.parts.result c.args.case.now.request.now.parts c.if-case-parts.true c.parts.ensures.same)

pub returns-in-Some-clause-headline : goal.returns-in-Some-clause-headline
returns-in-Some-clause-headline g c =
    certified c.args.case.now.request.now c.args.case.now.input.now (contents c.args.case.now.outputs.now) c.args.case.now.certificate.now (Ok c.in-Some.yes)
    c.walk-items.ensures.bytes (omega (arith, c.split_size-size.ensures.same, c.split_size-size.ensures.within.0))
    (returns-in-Some-clause-yes g c)
