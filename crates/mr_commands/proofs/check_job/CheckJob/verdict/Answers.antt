use Rattle.std.proofs.Common.{◌≡◌, ◌⊎◌, ℕ, List, Result, Ok, Err}
use Rattle.std.specs.Prelude.{IfErr, IfOk}
use Rattle.mr_input.specs.Files.{contents}
use Rattle.mr_jobs.specs.JobSpec.{RequestSpec}
use Rattle.mr_verdict.specs.Headline.{IsCertified, accepted_of}
use Rattle.mr_verdict.specs.Verdict.{verdict_of}
use Rattle.mr_verdict.specs.declared.answers.No.{No}
use Rattle.mr_verdict.specs.declared.answers.No.TheVariants.{OutOfMemory}
use Rattle.mr_verdict.specs.declared.answers.Yes.{Yes}
use Rattle.mr_commands.specs.Judgements.{IsAnswer}
use Rattle.mr_commands.proofs.check_job.CheckJob.verdict.Goals as goal

-- what a judge answers is an answer
answers : (request : RequestSpec) (files outputs : List (List ℕ)) (bytes : List ℕ) (r : Result Yes No)
    → IfOk r (λ y. IsCertified request files outputs bytes y.skips.items y.pairs) → IfOk r (λ y. verdict_of request files outputs bytes ≡ Ok (accepted_of y))
    → IfErr r (λ e. (e ≡ OutOfMemory) ⊎ (verdict_of request files outputs bytes ≡ Err e)) → IsAnswer request files outputs bytes r
answers request files outputs bytes (Ok y) headline good bad = record { verdict = good; certified = headline }
answers request files outputs bytes (Err e) headline good bad = bad

pub returns : goal.returns
returns g c =
    let job = c.args.self.now in
    answers job.request.now job.input.now (contents c.args.outputs.now) c.args.certificate.now c.judge.result c.judge.ensures.headline c.judge.ensures.yes c.judge.ensures.no
