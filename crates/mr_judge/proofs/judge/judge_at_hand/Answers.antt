use Rattle.std.proofs.Common.{◌≡◌, ℕ, length, ap, sym, ◌∙◌, subst, inr, arith}
use Rattle.std.specs.Prelude.{Vec, Ok, Err}
use Rattle.std.specs.Global.{Global}
use Rattle.std.proofs.lemmas.List.{length-map}
use Rattle.mr_input.specs.Files.{contents}
use Rattle.mr_certform.specs.declared.grammar_state.GrammarState.TheVariants.{AtMagic}
use Rattle.mr_judge.specs.Kinds.{InKind}
use Rattle.mr_judge.proofs.KindLemmas.{kinds_of}
use Rattle.mr_judge.specs.Outputs.{IsVerdict}
use Rattle.mr_judge.proofs.VerdictLemmas.{verdict_count}
use Rattle.mr_judge.proofs.JudgeLemmas.{as_many}
use Rattle.mr_judge.proofs.RestLemmas.{judged_at_hand}
use Rattle.mr_verdict.specs.declared.items.JudgeError.{JudgeError}
use Rattle.mr_verdict.proofs.HeadlineLemmas.{certified}
use Rattle.mr_judge.proofs.judge.judge_at_hand.Goals as goal

pub returns-then-case-parts-clause-verdict : goal.returns-then-case-parts-clause-verdict
returns-then-case-parts-clause-verdict g c =
    inr (verdict_count c.args.case.now.request.now c.args.case.now.input.now (contents c.args.case.now.outputs.now) c.args.case.now.certificate.now (λ h. c.if-case-parts.true (let l : length (contents c.args.case.now.outputs.now) ≡ length c.args.case.now.outputs.now = length-map c.args.case.now.outputs.now (λ (f : Vec ℕ Global). f.items) in omega (arith, h, l, c.parts.ensures.same))))

pub judge_all-requires-clause-front : goal.judge_all-requires-clause-front
judge_all-requires-clause-front g c is at e = subst (InKind AtMagic) (sym (e.0 ∙ c.walk-walker.ensures.items)) (kinds_of c.args.case.now.certificate.now)

pub returns-in-Ok-clause-verdict : goal.returns-in-Ok-clause-verdict
returns-in-Ok-clause-verdict g c =
    (judged_at_hand c.args.case.now.request.now c.args.case.now.input.now (contents c.args.case.now.outputs.now) (contents c.new-outputs.result.later.now) c.new-outputs.result.rest.now c.args.case.now.certificate.now c.walk-walker.result c.args.work.now.meter.lookups c.judge_all.new.work.meter.lookups (Ok c.in-Ok.yes) c.walk-walker.ensures.bytes c.walk-walker.ensures.items c.walk-walker.ensures.stop c.new-outputs.ensures.rest (ap contents c.new-outputs.ensures.later) (as_many c.args.case.now.outputs.now c.parts.result c.args.case.now.request.now.parts c.if-case-parts.false c.parts.ensures.same) c.in-Ok.ensures.judged).0

pub returns-in-Ok-clause-headline : goal.returns-in-Ok-clause-headline
returns-in-Ok-clause-headline g c =
    certified c.args.case.now.request.now c.args.case.now.input.now (contents c.args.case.now.outputs.now) c.args.case.now.certificate.now (Ok c.in-Ok.yes)
    c.walk-walker.ensures.bytes
    (omega (arith, c.split_size-size.ensures.same, c.split_size-size.ensures.within.0))
    (returns-in-Ok-clause-verdict g c)

pub returns-in-Err-Fault-clause-verdict : goal.returns-in-Err-Fault-clause-verdict
returns-in-Err-Fault-clause-verdict g c =
    let told = judged_at_hand c.args.case.now.request.now c.args.case.now.input.now (contents c.args.case.now.outputs.now) (contents c.new-outputs.result.later.now) c.new-outputs.result.rest.now c.args.case.now.certificate.now c.walk-walker.result c.args.work.now.meter.lookups c.judge_all.new.work.meter.lookups (Err c.in-Err-Fault.field-0) c.walk-walker.ensures.bytes c.walk-walker.ensures.items c.walk-walker.ensures.stop c.new-outputs.ensures.rest (ap contents c.new-outputs.ensures.later) (as_many c.args.case.now.outputs.now c.parts.result c.args.case.now.request.now.parts c.if-case-parts.false c.parts.ensures.same) c.in-Err-Fault.ensures.judged in
    subst (λ (e : JudgeError). IsVerdict c.args.case.now.request.now c.args.case.now.input.now (contents c.args.case.now.outputs.now) c.args.case.now.certificate.now (Err e)) c.in-Err-Fault.field-0-is told.0
