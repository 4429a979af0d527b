use Rattle.std.proofs.Common.{◌≡◌, List, ℕ, ap, subst}
use Rattle.std.specs.Prelude.{option_map}
use Rattle.mr_input.specs.Files.{contents}
use Rattle.mr_commands.specs.Judgements.{IsAnswer, text_kept}
use Rattle.mr_commands.proofs.check_job.CheckJob.judge_whole.Goals as goal

pub returns-clause-judged : goal.returns-clause-judged
returns-clause-judged g c =
    let job = c.args.self.now in
    let outputs = contents c.in-Ok.held.0.items in
    let bytes = c.in-Ok.held.1.items in
    let answer = c.verdict-answer.result in (
      outputs,
      bytes,
      (c.in-Ok.ensures.outputs, c.in-Ok.ensures.certificate),
      record {
        answer = answer;
        right = subst (λ (b : List ℕ). IsAnswer job.request.now job.input.now outputs b answer) c.as_slice-2.ensures.value
            (subst (λ (v : List (List ℕ)). IsAnswer job.request.now job.input.now v c.as_slice-2.result.now answer) (ap contents c.as_slice.ensures.value) c.verdict-answer.ensures);
        said = c.in_ok-said.ensures.said;
        facts = c.in_ok-said.ensures.facts;
        kept = subst (λ v. option_map (λ t. t.items) c.in_ok-verdict.verdict ≡ text_kept job.request.now job.asked.now job.input.now job.ends (contents v) answer) c.as_slice-3.ensures.value c.in_ok-verdict.ensures;
      },
    )
