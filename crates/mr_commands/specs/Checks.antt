-- What `check` answers, over the files of a store.
use Rattle.std.specs.Prelude.{◌≡◌, ◌≢◌, ◌⊎◌, ℕ, ◌∷◌, ◌++◌, ◌<◌, ◌≤◌, Bool, IsSome, IfSome, Result, Ok, Err, List, [], length, slice_index_or, Contains, ⊤, string_bytes}
use Rattle.mr_bytes.specs.declared.RecordName.{RecordName}
use Rattle.mr_jobs.specs.JobSpec.{RequestSpec}
use Rattle.mr_verdict.specs.declared.answers.No.{No}
use Rattle.mr_verdict.specs.declared.answers.No.TheVariants as no
use Rattle.mr_verdict.specs.declared.answers.Yes.{Yes}
use Rattle.mr_verdict.specs.Headline.{IsCertified}
use Rattle.mr_verdict.specs.Verdict.{verdict_of}
use Rattle.mr_files.specs.Holding.{Faulty, Holding, Stored}
use Rattle.mr_files.specs.Identities.{AreApart, Known}
use Rattle.mr_files.specs.Names.{part_names, name_of_certificate, result_names}
use Rattle.mr_args.specs.declared.fault.Fault.{Fault}
use Rattle.mr_args.specs.declared.fault.Fault.TheVariants.{BadThreads, LineEndInName, CannotRead, OutOfMemory}
use Rattle.mr_args.specs.declared.request.CheckOptions.{CheckOptions}
use Rattle.mr_args.specs.declared.request.Options.{Options}
use Rattle.mr_args.specs.Asked.{IsRequestRefusal, request_asked}
use Rattle.mr_commands.specs.Inputs.{IsAsked, IsInput, IsInputRefusal, IsTakenInput}
use Rattle.mr_commands.specs.Named.{AreClear, input_names, read_by_check, stretch_of, verdict_file, written_by_check}
use Rattle.mr_commands.specs.NoLines.{no_line}
use Rattle.mr_commands.specs.YesLines.{yes_text}

-- the verdict is yes, with these left-out records and so many pairs; and so the result is certified
pub record IsYes (request : RequestSpec) (files outputs : List (List ℕ)) (bytes : List ℕ) (skips : List RecordName) (pairs : ℕ) : Type 0 where
  pub verdict : verdict_of request files outputs bytes ≡ Ok (record { skips = skips; pairs = pairs })
  pub certified : IsCertified request files outputs bytes skips pairs

-- 0 says that the verdict on the result under the request is yes, with the pairs and the left-out records that are told, and
-- 1 that it is the fault that is told
abbrev pub IsJudged : RequestSpec → List (List ℕ) → List (List ℕ) → List ℕ → List ℕ → ℕ → Type 0
IsJudged request files outputs bytes text status =
    ((status ≡ 0) × (skips : List RecordName) × (pairs : ℕ) × (text ≡ yes_text pairs skips) × IsYes request files outputs bytes skips pairs)
    ⊎ ((status ≡ 1) × (fault : No) × (text ≡ no_line fault) × (verdict_of request files outputs bytes ≡ Err fault))

-- 0 and the pairs and left-out records of a yes are told, or 1 and the fault of a no
abbrev pub SaysAnswer : Result Yes No → List ℕ → ℕ → Type 0
SaysAnswer (Ok y) text status = (status ≡ 0) × (text ≡ yes_text y.pairs y.skips.items)
SaysAnswer (Err e) text status = (e ≢ no.OutOfMemory) × (status ≡ 1) × (text ≡ no_line e)

-- a file of the result can't be read
abbrev pub IsResultRefusal : Faulty → List (List ℕ) → Fault → Type 0
IsResultRefusal unreadable names (CannotRead name) =
    (before after : List (List ℕ)) × (names ≡ before ++ string_bytes name ∷ after) × unreadable (string_bytes name)
IsResultRefusal unreadable names OutOfMemory = ⊤
IsResultRefusal unreadable names fault = ⊥

-- what `check` says: what stands under the names of the input, of the parts and of the certificate is judged, and
-- nothing else
pub record AnswersCheck (holds : Stored) (o : Options) (text : List ℕ) (status : ℕ) : Type 0 where
  pub files : List (List ℕ)
  pub ends : Bool
  pub outputs : List (List ℕ)
  pub bytes : List ℕ
  pub input : IsTakenInput holds (stretch_of o) o.split files ends
  pub parts : Holding holds (part_names o.out.now o.parts) outputs
  pub certificate : holds (name_of_certificate o.out.now) bytes
  pub judged : IsJudged (request_asked o) files outputs bytes text status

abbrev pub AreBadThreads : ℕ → Type 0
AreBadThreads n = (n ≡ 0) ⊎ (64 < n)

abbrev pub AreGoodThreads : ℕ → Type 0
AreGoodThreads n = (1 ≤ n) × (n ≤ 64)

-- the first of the names that holds a line feed has this number
pub record IsFirstLineEnd (names : List (List ℕ)) (at : ℕ) : Type 0 where
  pub within : at < length names
  pub ends : Contains (slice_index_or names at []) 10
  pub first : (k : ℕ) → k < at → ¬ Contains (slice_index_or names k []) 10

-- a verdict is to be written, and can't tell the name of this file of the input
abbrev pub IsNameRefusal : CheckOptions → Fault → Type 0
IsNameRefusal asked (LineEndInName file) = IsSome asked.verdict × IsFirstLineEnd (input_names asked.options) file
IsNameRefusal asked fault = ⊥

-- why options that ask for a job that can be had are refused: the number of threads; that being good, the names that a
-- verdict is to tell
abbrev pub IsOptionRefusal : CheckOptions → Fault → Type 0
IsOptionRefusal asked fault = ((fault ≡ BadThreads) × AreBadThreads asked.threads) ⊎ (AreGoodThreads asked.threads × IsNameRefusal asked fault)

-- the options ask for a judgement that can be had
pub record AreGood (asked : CheckOptions) : Type 0 where
  pub job : IsAsked asked.options
  pub threads : AreGoodThreads asked.threads
  pub clear : IfSome (verdict_file asked) (λ name. AreClear asked.options)

-- why `check` says nothing: the request, then the number of threads, then the names that a verdict is to tell, then the
-- input, then the files of the result; each where all before it is good
abbrev pub IsCheckRefusal : Stored → Faulty → Known → CheckOptions → Fault → Type 0
IsCheckRefusal holds unreadable known asked fault =
    let o = asked.options in
    IsRequestRefusal o fault
    ⊎ (IsAsked o × IsOptionRefusal asked fault)
    ⊎ (AreGood asked × IsInputRefusal holds unreadable known (stretch_of o) (read_by_check asked) (written_by_check asked) o.split fault)
    ⊎ (AreGood asked × ((files : List (List ℕ)) × IsInput holds (stretch_of o) o.split files) × AreApart known (read_by_check asked) (written_by_check asked)
    × IsResultRefusal unreadable (result_names o.out.now o.parts) fault)
