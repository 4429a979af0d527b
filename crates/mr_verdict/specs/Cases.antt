-- What an answer says of a case. Public clauses cite `verdict_on` and `IsWorth`.
use Rattle.std.specs.Prelude.{◌≡◌, ◌⊎◌, List, Result, Ok, Err, MatchResult}
use Rattle.mr_input.specs.Files.{contents}
use Rattle.mr_verdict.specs.declared.case.Case.{Case}
use Rattle.mr_verdict.specs.declared.answers.No.{No}
use Rattle.mr_verdict.specs.declared.answers.No.TheVariants.{OutOfMemory}
use Rattle.mr_verdict.specs.declared.answers.Yes.{Yes}
use Rattle.mr_verdict.specs.Headline.{IsCertified, accepted_of}
use Rattle.mr_verdict.specs.Verdict.{Accepted, verdict_of}

-- the verdict on a case
abbrev pub verdict_on : Case → Result Accepted No
verdict_on case = verdict_of case.request.now case.input.now (contents case.outputs.now) case.certificate.now

-- what a yes to a case is worth
abbrev pub IsWorth : Case → Yes → Type 0
IsWorth case y =
    IsCertified case.request.now case.input.now (contents case.outputs.now) case.certificate.now y.skips.items y.pairs

-- an answer is the verdict on a case, or want of memory
abbrev pub IsVerdictOn : Case → Result Yes No → Type 0
IsVerdictOn case answer =
    MatchResult answer (λ y. verdict_on case ≡ Ok (accepted_of y)) (λ e. (e ≡ OutOfMemory) ⊎ (verdict_on case ≡ Err e))
