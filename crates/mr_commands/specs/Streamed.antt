-- What readers of a result's files give, and what is told where a read of one fails.
use Rattle.std.specs.Prelude.{◌≡◌, ◌<◌, ℕ, List, Option, Result, length, get_or, ⊤, string_bytes}
use Rattle.mr_jobs.specs.JobSpec.{RequestSpec}
use Rattle.mr_verdict.specs.declared.answers.No.{No}
use Rattle.mr_verdict.specs.declared.answers.No.TheVariants.{Device}
use Rattle.mr_verdict.specs.declared.answers.Source.{Source}
use Rattle.mr_verdict.specs.declared.answers.Source.TheVariants.{Certificate, Output}
use Rattle.mr_verdict.specs.declared.answers.Yes.{Yes}
use Rattle.mr_files.specs.Holding.{Agrees, AllAgree}
use Rattle.mr_commands.specs.Judgements.{IsAnswer}
use Rattle.mr_args.specs.declared.fault.Fault.{Fault}
use Rattle.mr_args.specs.declared.fault.Fault.TheVariants.{CannotRead, OutOfMemory as no_memory}

-- where a fault tells of a read, one of that source has failed
abbrev pub DidFail : List ℕ → ℕ → No → Type 0
DidFail parts certificate (Device Certificate) = certificate ≡ 0 → ⊥
DidFail parts certificate (Device (Output p)) = (p < length parts) × (get_or parts p 0 ≡ 0 → ⊥)
DidFail parts certificate e = ⊤

-- the same fault, which tells of no read
abbrev pub ReportsOther : No → No → Type 0
ReportsOther was e = (e ≡ was) × ((s : Source) → was ≡ Device s → ⊥)

-- an answer on a result that readers give
abbrev pub GivesAnswer : RequestSpec → List (List ℕ) → List (Option (List ℕ)) → Option (List ℕ) → Result Yes No → Type 0
GivesAnswer request files parts certificate answer =
    (outputs : List (List ℕ)) × (bytes : List ℕ) × AllAgree parts outputs × Agrees certificate bytes × IsAnswer request files outputs bytes answer

-- a file is told that can't be read, of which this is known, or want of memory
abbrev pub ReportsRead : (List ℕ → Type 0) → Fault → Type 0
ReportsRead cause (CannotRead name) = cause (string_bytes name)
ReportsRead cause no_memory = ⊤
ReportsRead cause fault = ⊥
