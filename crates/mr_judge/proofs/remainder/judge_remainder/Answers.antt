use Rattle.std.proofs.Common.{◌+◌, length, refl, ap, ◌∙◌, subst, arith}
use Rattle.std.specs.Prelude.{Ok, Err}
use Rattle.mr_splits.specs.Cut.{records_of}
use Rattle.mr_input.specs.Files.{contents}
use Rattle.mr_index.specs.Index.{triples_of}
use Rattle.mr_index.proofs.WorkLemmas.{mapped-few}
use Rattle.mr_verdict.specs.declared.items.JudgeError.{JudgeError}
use Rattle.mr_verdict.specs.Verdict.{entries_in}
use Rattle.mr_certform.specs.Walking.{items_left}
use Rattle.mr_judge.specs.declared.remainder.Remainder.{Remainder}
use Rattle.mr_judge.specs.Borders.{behind_entries}
use Rattle.mr_judge.specs.Outputs.{IsTold}
use Rattle.mr_judge.specs.Remainder.{faults_left}
use Rattle.mr_judge.proofs.OutputLemmas.{contents_drop}
use Rattle.mr_judge.proofs.RemainderLemmas.{leaves_behind, told_behind}
use Rattle.mr_judge.proofs.remainder.judge_remainder.Goals as goal

pub of_watched-requires : goal.of_watched-requires
of_watched-requires g c =
    omega (arith, c.count-few.ensures.count, c.count-few.ensures.few, ap (λ k. length (records_of k)) c.plan.ensures, mapped-few c.args.rest.now.kept.now.skips (records_of c.args.rest.now.kept.now.cut))

pub check_parts-requires-clause-fits : goal.check_parts-requires-clause-fits
check_parts-requires-clause-fits g c rest later e =
    let r : Remainder = c.args.rest.now in
    let outs = contents r.outputs.now in
    (outs, leaves_behind r.border r.named outs rest later (behind_entries r.border r.named) refl (e.0 ∙ c.at-outputs.ensures.rest) (e.1 ∙ (ap contents c.at-outputs.ensures.later ∙ contents_drop r.border.next r.outputs.now)))

pub returns-in-Ok : goal.returns-in-Ok
returns-in-Ok g c =
    let r : Remainder = c.args.rest.now in
    told_behind r c.at-outputs.result.rest.now (contents c.at-outputs.result.later.now) c.in_ok-index.index (behind_entries r.border r.named) c.of_watched.new.meter.lookups c.check_parts.new.work.meter.lookups (Ok c.in-Ok.named) (c.in_ok-index.ensures.ok ∙ ap (λ job. triples_of job r.kept.now.cut r.kept.now.skips) c.job.ensures.same) refl
    c.at-outputs.ensures.rest (ap contents c.at-outputs.ensures.later ∙ contents_drop r.border.next r.outputs.now) c.in-Ok.ensures.judged

pub returns-in-Err-Fault : goal.returns-in-Err-Fault
returns-in-Err-Fault g c =
    let r : Remainder = c.args.rest.now in
    subst (λ (e : JudgeError). IsTold (faults_left r) (r.named + entries_in (items_left r.walker)) (Err e)) c.in-Err-Fault.field-0-is
    (told_behind r c.at-outputs.result.rest.now (contents c.at-outputs.result.later.now) c.in_ok-index.index (behind_entries r.border r.named) c.of_watched.new.meter.lookups c.check_parts.new.work.meter.lookups (Err c.in-Err-Fault.field-0) (c.in_ok-index.ensures.ok ∙ ap (λ job. triples_of job r.kept.now.cut r.kept.now.skips) c.job.ensures.same) refl
    c.at-outputs.ensures.rest (ap contents c.at-outputs.ensures.later ∙ contents_drop r.border.next r.outputs.now) c.in-Err-Fault.ensures.judged)
