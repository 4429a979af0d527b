-- What the program answers, over the files of a store.
use Rattle.std.specs.Prelude.{◌≡◌, ◌⊎◌, ℕ, ◌<◌, ◌∷◌, ◌++◌, Bool, true, Option, None, Some, List, [], length, ⊤}
use Rattle.mr_bytes.specs.declared.RecordName.{RecordName}
use Rattle.mr_jobs.specs.JobSpec.{RequestSpec}
use Rattle.mr_sequential.specs.Emitted.{emitted}
use Rattle.mr_sequential.specs.Skips.{skip_fault}
use Rattle.mr_files.specs.Holding.{ChangesAmong, Faulty, Holding, Stored}
use Rattle.mr_files.specs.Identities.{AreApart, Known}
use Rattle.mr_files.specs.Names.{part_names, name_of_certificate, result_names}
use Rattle.mr_args.specs.declared.fault.Fault.{Fault}
use Rattle.mr_args.specs.declared.fault.Fault.TheVariants.{NoPairs, Run, OutOfMemory}
use Rattle.mr_args.specs.declared.request.Options.{Options}
use Rattle.mr_args.specs.declared.request.SeqOptions.{SeqOptions}
use Rattle.mr_args.specs.Asked.{request_asked}
use Rattle.mr_commands.specs.Inputs.{IsAsked, IsInput, IsRunInputRefusal, IsStopped}
use Rattle.mr_commands.specs.Named.{input_names, named, stretch_of}
use Rattle.mr_commands.specs.OldVerdicts.{IsEmptied, IsOldVerdict, IsVerdictShared, no_text}
use Rattle.mr_commands.specs.Outcomes.{IsSequentialResult, done_line}
use Rattle.mr_args.specs.SkipList.{SpellsNames}

-- the names of the result of `seq`
abbrev pub written_by_seq : SeqOptions → List (List ℕ)
written_by_seq o = result_names o.options.out.now o.options.parts

-- there are pairs where they are needed
abbrev pub HasPairs : Bool → ℕ → Type 0
HasPairs needed pairs = needed ≡ true → 0 < pairs

-- how many pairs the job that is asked for makes of files without these records
abbrev pub pairs_asked : Options → List (List ℕ) → List RecordName → ℕ
pairs_asked o files names = length (emitted (request_asked o).job (request_asked o).split files names)

-- the result of the sequential execution over what stands under the names of the input, and the line that is said of it
pub record WorksOut (holds : Stored) (known : Known) (o : SeqOptions) (outputs : List (List ℕ)) (bytes line : List ℕ) : Type 0 where
  pub files : List (List ℕ)
  pub names : List RecordName
  pub input : IsInput holds (stretch_of o.options) o.options.split files
  pub apart : AreApart known (input_names o.options) (written_by_seq o)
  pub spelled : SpellsNames o.skips.now names
  pub result : IsSequentialResult o.version (request_asked o.options) files names outputs bytes
  pub said : line ≡ done_line o.options.parts (pairs_asked o.options files names) (length names)
  pub pairs : HasPairs o.need_pairs (pairs_asked o.options files names)

-- a list of left-out records has this fault over the input
abbrev pub IsRunRefusal : RequestSpec → List (List ℕ) → List RecordName → Fault → Type 0
IsRunRefusal request files names (Run told) = skip_fault request files names ≡ Some told
IsRunRefusal request files names OutOfMemory = ⊤
IsRunRefusal request files names fault = ⊥

-- why there is no work that writes these files: the request, the text of the skip list, the input, then the list over the input
abbrev pub IsWorkRefusal : Stored → Faulty → Known → Options → List ℕ → List (List ℕ) → Fault → Type 0
IsWorkRefusal holds unreadable known o text written fault = IsRunInputRefusal holds unreadable known o text written fault
    ⊎ (IsAsked o × ((files : List (List ℕ)) × (names : List RecordName)
    × IsInput holds (stretch_of o) o.split files × AreApart known (input_names o) written × SpellsNames text names
    × IsRunRefusal (request_asked o) files names fault))

-- pairs are needed, and there are none; nothing else is wrong
abbrev pub IsPairless : Stored → Known → SeqOptions → Fault → Type 0
IsPairless holds known o NoPairs = (o.need_pairs ≡ true) × (files : List (List ℕ)) × (names : List RecordName)
    × IsInput holds (stretch_of o.options) o.options.split files × AreApart known (input_names o.options) (written_by_seq o)
    × SpellsNames o.skips.now names × (skip_fault (request_asked o.options) files names ≡ None) × (pairs_asked o.options files names ≡ 0)
IsPairless holds known o fault = ⊥

-- what `seq` did where it says that it is done: behind it the result of the sequential execution over what stood under
-- the names of the input stands under the names of the parts and of the certificate, which is spelled in the version that is
-- asked for; none of these is a file of the input, and no two are one. A verdict that stood there is empty
pub record AnswersSeq (old new : Stored) (unreadable : Faulty) (known : Known) (o : SeqOptions) (text : List ℕ) : Type 0 where
  pub files : List (List ℕ)
  pub names : List RecordName
  pub outputs : List (List ℕ)
  pub bytes : List ℕ
  pub input : IsInput old (stretch_of o.options) o.options.split files
  pub apart : AreApart known (input_names o.options) (written_by_seq o)
  pub spelled : SpellsNames o.skips.now names
  pub result : IsSequentialResult o.version (request_asked o.options) files names outputs bytes
  pub parts : Holding new (part_names o.options.out.now o.options.parts) outputs
  pub certificate : new (name_of_certificate o.options.out.now) bytes
  pub said : text ≡ done_line o.options.parts (pairs_asked o.options files names) (length names)
  pub pairs : HasPairs o.need_pairs (pairs_asked o.options files names)
  pub verdict : Option (List ℕ)
  pub stood : IsOldVerdict old unreadable known o.options.out.now verdict
  pub emptied : IsEmptied new verdict
  pub unread : AreApart known (input_names o.options) (named verdict)

-- why there is no result to write
abbrev pub IsUnworked : Stored → Faulty → Known → SeqOptions → Fault → Type 0
IsUnworked holds unreadable known o fault = IsWorkRefusal holds unreadable known o.options o.skips.now (written_by_seq o) fault
    ⊎ IsPairless holds known o fault

-- why `seq` is not done: there is no work and nothing was written; or the work's result was not all written
abbrev pub IsSeqRefusal : Stored → Stored → Faulty → Faulty → Known → SeqOptions → Fault → Type 0
IsSeqRefusal old new unreadable unwritable known o fault = (ChangesAmong old new [] × IsUnworked old unreadable known o fault)
    ⊎ (ChangesAmong old new [] × IsVerdictShared old known o.options.out.now (input_names o.options) fault)
    ⊎ ((outputs : List (List ℕ)) × (bytes line : List ℕ) × (verdict : Option (List ℕ)) × WorksOut old known o outputs bytes line
    × IsOldVerdict old unreadable known o.options.out.now verdict
    × IsStopped old new unwritable (named verdict ++ written_by_seq o) (no_text verdict ++ (outputs ++ bytes ∷ [])) fault)
