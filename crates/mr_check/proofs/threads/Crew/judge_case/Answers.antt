use Rattle.std.proofs.Common.{◌≡◌, sym, ◌∙◌, subst, arith}
use Rattle.std.specs.Prelude.{Ok, Err}
use Rattle.mr_input.specs.Files.{contents}
use Rattle.mr_certform.specs.declared.grammar_state.GrammarState.TheVariants.{AtMagic}
use Rattle.mr_judge.specs.Kinds.{InKind}
use Rattle.mr_judge.proofs.KindLemmas.{kinds_of}
use Rattle.mr_judge.proofs.JudgeLemmas.{as_many}
use Rattle.mr_verdict.proofs.HeadlineLemmas.{certified}
use Rattle.mr_verdict.specs.declared.answers.Yes.{Yes}
use Rattle.mr_certform.specs.Walking.{items_left, halt}
use Rattle.mr_check.specs.Accepted.{PartsJudged}
use Rattle.mr_check.proofs.threads.Crew.judge_case.Goals as goal

pub read-requires-clause-front : goal.read-requires-clause-front
read-requires-clause-front g c is at e = subst (InKind AtMagic) (sym (e.0 ∙ c.walk-items.ensures.items)) (kinds_of c.args.case.now.certificate.now)

pub returns-in-Ok-clause-verdict : goal.returns-in-Ok-clause-verdict
returns-in-Ok-clause-verdict g c =
    let j = c.in_ok-front.ensures.judged (Ok c.in-Ok.pairs) (subst (PartsJudged (λ is at. (is ≡ items_left c.read.new.items) × (at ≡ halt c.read.new.items)) c.in_ok-front.front) c.in-Ok.is c.in_ok-answer.ensures) in
    let e = j.1.1.0 in
    j.1.1.1.0 c.args.case.now.certificate.now (record { bytes_are = c.walk-items.ensures.bytes; items_are = e.0 ∙ c.walk-items.ensures.items; stop_is = e.1 ∙ c.walk-items.ensures.stop })
    (as_many c.args.case.now.outputs.now c.parts.result c.args.case.now.request.now.parts c.if-case-parts.false c.parts.ensures.same)

pub returns-in-Ok-clause-headline : goal.returns-in-Ok-clause-headline
returns-in-Ok-clause-headline g c =
    let y : Yes = record { skips = c.in_ok-front.front.skips; pairs = c.in-Ok.pairs } in
    certified c.args.case.now.request.now c.args.case.now.input.now (contents c.args.case.now.outputs.now) c.args.case.now.certificate.now (Ok y)
    c.walk-items.ensures.bytes
    (omega (arith, c.split_size-size.ensures.same, c.split_size-size.ensures.within.0))
    (returns-in-Ok-clause-verdict g c)

pub returns-in-Err-clause-verdict : goal.returns-in-Err-clause-verdict
returns-in-Err-clause-verdict g c =
    let j = c.in_ok-front.ensures.judged (Err c.in-Err.fault) (subst (PartsJudged (λ is at. (is ≡ items_left c.read.new.items) × (at ≡ halt c.read.new.items)) c.in_ok-front.front) c.in-Err.is c.in_ok-answer.ensures) in
    let e = j.1.1.0 in
    j.1.1.1.0 c.args.case.now.certificate.now (record { bytes_are = c.walk-items.ensures.bytes; items_are = e.0 ∙ c.walk-items.ensures.items; stop_is = e.1 ∙ c.walk-items.ensures.stop })
    (as_many c.args.case.now.outputs.now c.parts.result c.args.case.now.request.now.parts c.if-case-parts.false c.parts.ensures.same)
