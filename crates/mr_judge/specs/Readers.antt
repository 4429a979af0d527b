-- Of no public promise: how far outputs are read, and what judging them says.
use Rattle.std.specs.Prelude.{ℕ, List, map, Option, Result}
use Rattle.mr_jobs.specs.JobSpec.{RequestSpec}
use Rattle.mr_verdict.specs.declared.answers.No.TheVariants.{Device as AtRead}
use Rattle.mr_verdict.specs.declared.items.JudgeError.{JudgeError}
use Rattle.mr_verdict.specs.declared.items.JudgeError.TheVariants.{Fault}
use Rattle.mr_verdict.specs.declared.answers.Yes.{Yes}
use Rattle.mr_judge.specs.declared.readers.ReaderOutputs.{ReaderOutputs}
use Rattle.mr_judge.specs.From.{MayGive}
use Rattle.mr_judge.specs.Outputs.{IsVerdict}
use Rattle.mr_judge.specs.Reading.{Reading}

abbrev pub reading : {R : Type 0} → (R → Option (List ℕ)) → ReaderOutputs R → Reading
reading remaining o = record { opened = o.opened; held = o.piece; exhausted = o.exhausted; known = map remaining o.readers.now }

-- what an answer says of the verdict over something that the readers may give
abbrev pub StopOfSome : RequestSpec → List (List ℕ) → List (Option (List ℕ)) → Option (List ℕ) → Result Yes JudgeError → Type 0
StopOfSome request files outputs certificate answer =
    (outs : List (List ℕ)) × ((bytes : List ℕ) × (MayGive outputs certificate outs bytes × IsVerdict request files outs bytes answer))

-- it is no fault that tells of a read
abbrev pub ReportsNoRead : JudgeError → Type 0
ReportsNoRead (Fault (AtRead s)) = ⊥
ReportsNoRead stop = Unit {0}
