-- What `check` leaves: the verdict of a yes, under the name that is given for it.
use Rattle.std.specs.Prelude.{◌≡◌, ◌⊎◌, ℕ, ◌∷◌, Bool, Option, Some, IfSome, List, [], length, ⊤}
use Rattle.mr_bytes.specs.declared.RecordName.{RecordName}
use Rattle.mr_jobs.specs.JobSpec.{RequestSpec}
use Rattle.mr_shards.specs.Verdict.{Told, spelling}
use Rattle.mr_shards.specs.Spots.{spots_of}
use Rattle.mr_shards.specs.Truth.{IsTrueOf, notes_for, ranges_for, verdict_for}
use Rattle.mr_files.specs.Holding.{ChangesAmong, Faulty, Stored}
use Rattle.mr_files.specs.Identities.{AreApart, Known}
use Rattle.mr_files.specs.Names.{part_files}
use Rattle.mr_files.specs.Refusals.{IsWriteRefusal}
use Rattle.mr_files.specs.Stretches.{Stretch}
use Rattle.mr_files.specs.declared.store.FileFault.{FileFault}
use Rattle.mr_args.specs.declared.fault.Fault.{Fault}
use Rattle.mr_args.specs.declared.request.CheckOptions.{CheckOptions}
use Rattle.mr_args.specs.declared.request.Options.{Options}
use Rattle.mr_args.specs.Asked.{request_asked}
use Rattle.mr_commands.specs.Checks.{AnswersCheck, IsCheckRefusal, IsYes}
use Rattle.mr_commands.specs.Inputs.{IsStopped}
use Rattle.mr_commands.specs.Named.{AreClear, read_by_check, stretch_of, verdict_file, written_by_check}
use Rattle.mr_commands.specs.YesLines.{yes_text}

-- the verdict about what is taken of files, and about outputs by the names of their parts in a folder
abbrev pub verdict_about : RequestSpec → Stretch → List (List ℕ) → Bool → List (List ℕ) → List RecordName → ℕ → Told
verdict_about request s files ends outputs skips pairs =
    verdict_for request (ranges_for s.names s.from files ends) (notes_for (part_files (length outputs)) outputs) (spots_of request.split files skips) pairs

-- the verdict of the yes that the text says: about what was judged, by the names that were given, and true of it
pub record IsVerdictOf (o : Options) (files : List (List ℕ)) (ends : Bool) (outputs : List (List ℕ)) (bytes text : List ℕ) (verdict : Told) : Type 0 where
  pub skips : List RecordName
  pub pairs : ℕ
  pub said : text ≡ yes_text pairs skips
  pub judged : IsYes (request_asked o) files outputs bytes skips pairs
  pub about : verdict ≡ verdict_about (request_asked o) (stretch_of o) files ends outputs skips pairs
  pub is_true : IsTrueOf (request_asked o) verdict files outputs
  pub clear : AreClear o

-- on a yes its verdict stands under the name that is given for it, and on a no all stands as before
abbrev pub Leaves : Stored → Stored → CheckOptions → List (List ℕ) → Bool → List (List ℕ) → List ℕ → List ℕ → ℕ → Type 0
Leaves old new asked files ends outputs bytes text status =
    (status ≡ 0 → IfSome (verdict_file asked) (λ name. (verdict : Told) × IsVerdictOf asked.options files ends outputs bytes text verdict × new name (spelling verdict)))
    × (status ≡ 1 → ChangesAmong old new [])

-- what `check` says of what stood there, and what it leaves; the file of the verdict is none of those that it read
abbrev pub KeepsVerdict : Stored → Stored → Known → CheckOptions → List ℕ → ℕ → Type 0
KeepsVerdict old new known asked text status =
    (says : AnswersCheck old asked.options text status) × AreApart known (read_by_check asked) (written_by_check asked)
    × Leaves old new asked says.files says.ends says.outputs says.bytes text status

-- the verdict of a yes could not be written whole: under its name stands what stood there, or a beginning of its text
abbrev pub IsVerdictStopped : Stored → Stored → Faulty → Known → CheckOptions → Fault → Type 0
IsVerdictStopped old new unwritable known asked fault =
    (text name : List ℕ) × (verdict : Told) × (says : AnswersCheck old asked.options text 0) × AreApart known (read_by_check asked) (written_by_check asked) × (verdict_file asked ≡ Some name)
    × IsVerdictOf asked.options says.files says.ends says.outputs says.bytes text verdict × IsStopped old new unwritable (name ∷ []) (spelling verdict ∷ []) fault

-- why `check` doesn't answer: it says nothing, and nothing was written; or the verdict was not written whole
abbrev pub IsCheckUnanswered : Stored → Stored → Faulty → Faulty → Known → CheckOptions → Fault → Type 0
IsCheckUnanswered old new unreadable unwritable known asked fault =
    (ChangesAmong old new [] × IsCheckRefusal old unreadable known asked fault) ⊎ IsVerdictStopped old new unwritable known asked fault

-- ---- a text written where it is to be kept

-- the text stands under the name, where there are both
abbrev pub IsKeptUnder : Stored → Option (List ℕ) → Option (List ℕ) → Type 0
IsKeptUnder new (Some name) (Some text) = new name text
IsKeptUnder new name text = ⊤

-- the name is written under where there are both
abbrev pub names_kept : Option (List ℕ) → Option (List ℕ) → List (List ℕ)
names_kept (Some name) (Some text) = name ∷ []
names_kept name text = []

-- why the text was not written whole; where there is nothing to write, nothing is refused
abbrev pub IsTextRefused : Stored → Stored → Faulty → Option (List ℕ) → Option (List ℕ) → FileFault → Type 0
IsTextRefused old new unwritable (Some name) (Some text) fault = IsWriteRefusal old new unwritable (name ∷ []) (text ∷ []) fault
IsTextRefused old new unwritable name text fault = ⊥
