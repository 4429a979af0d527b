-- The judgement of a result, from what was read of it to what is said and kept. No public clause stands on it.
use Rattle.std.specs.Prelude.{◌≡◌, ◌⊎◌, ℕ, Bool, List, Option, None, IfSome, Result, Ok, Err, option_map, string_bytes}
use Rattle.mr_jobs.specs.JobSpec.{RequestSpec}
use Rattle.mr_verdict.specs.declared.answers.No.{No}
use Rattle.mr_verdict.specs.declared.answers.No.TheVariants.{OutOfMemory}
use Rattle.mr_verdict.specs.declared.answers.Yes.{Yes}
use Rattle.mr_verdict.specs.Verdict.{verdict_of}
use Rattle.mr_shards.specs.Verdict.{spelling}
use Rattle.mr_files.specs.Holding.{Faulty, Holding, Stored}
use Rattle.mr_files.specs.Identities.{AreApart, Known}
use Rattle.mr_files.specs.Names.{name_of_certificate, part_names, result_names}
use Rattle.mr_args.specs.declared.request.CheckOptions.{CheckOptions}
use Rattle.mr_args.specs.declared.request.Options.{Options}
use Rattle.mr_args.specs.declared.fault.Fault.{Fault}
use Rattle.mr_args.specs.Asked.{request_asked}
use Rattle.mr_commands.specs.Checks.{IsResultRefusal, IsYes, SaysAnswer}
use Rattle.mr_commands.specs.Facts.{AreAnswerFacts}
use Rattle.mr_commands.specs.Inputs.{IsTakenInput}
use Rattle.mr_commands.specs.Named.{AreClear, read_by_check, stretch_of, verdict_file, written_by_check}
use Rattle.mr_commands.specs.Verdicts.{verdict_about}
use Rattle.mr_commands.specs.declared.check_job.CheckJob.{CheckJob}
use Rattle.mr_commands.specs.declared.check_job.Judgement.{Judgement}
use Rattle.mr_commands.specs.declared.texts.CommandOutput.{CommandOutput}

-- what an answer says of a result
abbrev pub IsAnswer : RequestSpec → List (List ℕ) → List (List ℕ) → List ℕ → Result Yes No → Type 0
IsAnswer request files outputs bytes (Ok y) = IsYes request files outputs bytes y.skips.items y.pairs
IsAnswer request files outputs bytes (Err e) = (e ≡ OutOfMemory) ⊎ (verdict_of request files outputs bytes ≡ Err e)

-- what is said of an answer
abbrev pub IsSaid : Result Yes No → CommandOutput → Type 0
IsSaid answer said = SaysAnswer answer (string_bytes said.text) said.status

-- the text that is kept of an answer on outputs: that of the verdict of a yes, where a name is given for it
abbrev pub text_kept : RequestSpec → CheckOptions → List (List ℕ) → Bool → List (List ℕ) → Result Yes No → Option (List ℕ)
text_kept request asked files ends outputs (Ok y) =
    option_map (λ _. spelling (verdict_about request (stretch_of asked.options) files ends outputs y.skips.items y.pairs)) (verdict_file asked)
text_kept request asked files ends outputs (Err e) = None

-- what comes of judging outputs and the bytes of a certificate against files
pub record IsJudgement (request : RequestSpec) (asked : CheckOptions) (files : List (List ℕ)) (ends : Bool) (outputs : List (List ℕ)) (bytes : List ℕ) (j : Judgement) : Type 0 where
  pub answer : Result Yes No
  pub right : IsAnswer request files outputs bytes answer
  pub said : IsSaid answer j.said
  pub facts : AreAnswerFacts files answer j.said.facts
  pub kept : option_map (λ v. v.items) j.verdict ≡ text_kept request asked files ends outputs answer

-- these outputs and these bytes of a certificate stand under the names of a result
abbrev pub IsResult : Stored → Options → List (List ℕ) → List ℕ → Type 0
IsResult holds o outputs bytes = Holding holds (part_names o.out.now o.parts) outputs × holds (name_of_certificate o.out.now) bytes

-- the names of the files of the result that is judged
abbrev pub files_judged : CheckJob → List (List ℕ)
files_judged job = result_names job.asked.now.options.out.now job.asked.now.options.parts

-- one of them can't be read
abbrev pub IsUnreadResult : Faulty → CheckJob → Fault → Type 0
IsUnreadResult unreadable job fault = IsResultRefusal unreadable (files_judged job) fault

-- the answer on the result
abbrev pub AnswersResult : Stored → CheckJob → Result Yes No → Type 0
AnswersResult holds job answer =
    (outputs : List (List ℕ)) × (bytes : List ℕ) × IsResult holds job.asked.now.options outputs bytes
    × IsAnswer job.request.now job.input.now outputs bytes answer

-- what comes of judging the result
abbrev pub JudgesResult : Stored → CheckJob → Judgement → Type 0
JudgesResult holds job j =
    (outputs : List (List ℕ)) × (bytes : List ℕ) × IsResult holds job.asked.now.options outputs bytes
    × IsJudgement job.request.now job.asked.now job.input.now job.ends outputs bytes j

-- what comes of judging what stands under the names of the result, against what stands under those of the input
pub record Judges (holds : Stored) (known : Known) (asked : CheckOptions) (j : Judgement) : Type 0 where
  pub files : List (List ℕ)
  pub ends : Bool
  pub outputs : List (List ℕ)
  pub bytes : List ℕ
  pub input : IsTakenInput holds (stretch_of asked.options) asked.options.split files ends
  pub result : IsResult holds asked.options outputs bytes
  pub apart : AreApart known (read_by_check asked) (written_by_check asked)
  pub clear : IfSome (verdict_file asked) (λ name. AreClear asked.options)
  pub judgement : IsJudgement (request_asked asked.options) asked files ends outputs bytes j
