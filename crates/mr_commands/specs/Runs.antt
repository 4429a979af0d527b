-- What `run` answers, over the files of a store.
use Rattle.std.specs.Prelude.{Bool, true, ◌≡◌, ◌⊎◌, ℕ, ◌∷◌, ◌++◌, ◌<◌, ◌≤◌, Option, None, Some, IfSome, List, [], Contains, codes, ⊤, string_bytes, option_map, length, vec_len}
use Rattle.mr_input.specs.Files.{contents}
use Rattle.mr_jobs.specs.JobSpec.{RequestSpec}
use Rattle.mr_certform.specs.declared.version.Version.{Version}
use Rattle.mr_script.specs.declared.script.Directive.{Directive}
use Rattle.mr_script.specs.Scripts.{IsScriptFault, SpellsScript}
use Rattle.mr_core.specs.declared.event.JobFault.{JobFault}
use Rattle.mr_core.specs.declared.event.Shape.{Shape}
use Rattle.mr_book.specs.declared.book.History.{History}
use Rattle.mr_verdict.specs.declared.answers.No.{No}
use Rattle.mr_pool.specs.Outcomes.{IsCertifiedRun, IsRunFault, run_shape}
use Rattle.mr_pool.specs.declared.running.Certified.{Certified as Kept}
use Rattle.mr_pool.specs.declared.running.RunFault.TheVariants as fault
use Rattle.mr_files.specs.Folders.{IsFolderOf}
use Rattle.mr_files.specs.Holding.{Begins, ChangesAmong, Differs, Faulty, Holding, Stored}
use Rattle.mr_files.specs.Identities.{AreApart, Known}
use Rattle.mr_files.specs.Refusals.{IsOneUnwritten, IsWriteRefusal}
use Rattle.mr_files.specs.declared.store.FileFault.{FileFault}
use Rattle.mr_files.specs.Names.{part_names, name_of_certificate, result_names}
use Rattle.mr_args.specs.declared.fault.Fault.{Fault}
use Rattle.mr_args.specs.declared.fault.Fault.TheVariants.{BadWorkers, BadAttempts, NoPairs, Script, ScratchInUse, SameFile, CannotRead, CannotWrite, OutOfMemory}
use Rattle.mr_args.specs.declared.request.RunOptions.{RunOptions}
use Rattle.mr_commands.specs.declared.running.RunOutcome.{RunOutcome}
use Rattle.mr_commands.specs.declared.running.RunOutcome.TheVariants.{Certified, Failed, Uncertified}
use Rattle.mr_args.specs.Asked.{IsRequestRefusal, request_asked}
use Rattle.mr_commands.specs.Inputs.{IsAsked, IsInput, IsInputRefusal}
use Rattle.mr_commands.specs.Named.{input_names, named, stretch_of}
use Rattle.mr_args.specs.Statuses.{ReportsFile}
use Rattle.mr_commands.specs.Answers.{HasPairs}
use Rattle.mr_picture.specs.HistoryLines.{fault_name}
use Rattle.mr_commands.specs.HistoryLines.{history_text}
use Rattle.mr_commands.specs.Outcomes.{counts_line}
use Rattle.mr_commands.specs.OldVerdicts.{IsEmptied, IsOldVerdict, IsVerdictShared, no_text}
use Rattle.mr_commands.specs.NoLines.{fault_text}

-- ---- what is said

abbrev pub certified_line : ℕ → ℕ → ℕ → List ℕ
certified_line = counts_line (codes "certified: ")

abbrev pub failed_line : JobFault → List ℕ
failed_line f = codes "failed: " ++ (fault_name f ++ codes "\n")

abbrev pub uncertified_line : No → List ℕ
uncertified_line verdict = codes "uncertified: " ++ (fault_text verdict ++ codes "\n")

-- 0 says that the result is certified, 1 that the job failed or that the result is refused
abbrev pub ReportsRan : RunOutcome → List ℕ → ℕ → Type 0
ReportsRan (Certified c) text status = (status ≡ 0) × (text ≡ certified_line (vec_len c.outputs) c.pairs (vec_len c.skips))
ReportsRan (Failed f h) text status = (status ≡ 1) × (text ≡ failed_line f)
ReportsRan (Uncertified verdict h) text status = (status ≡ 1) × (text ≡ uncertified_line verdict)

-- ---- what is run

-- the script that is named; where none is, that of no bytes
abbrev pub IsScript : Stored → Option (List ℕ) → List Directive → Type 0
IsScript holds None directives = SpellsScript [] directives
IsScript holds (Some name) directives = (bytes : List ℕ) × holds name bytes × SpellsScript bytes directives

abbrev pub script_name : RunOptions → Option (List ℕ)
script_name o = option_map (λ s. s.now) o.script

abbrev pub history_name : RunOptions → Option (List ℕ)
history_name o = option_map (λ s. s.now) o.history

abbrev pub scratch_name : RunOptions → Option (List ℕ)
scratch_name o = option_map (λ s. s.now) o.scratch

-- all that a run reads: its script and its input
abbrev pub read_by_run : RunOptions → List (List ℕ)
read_by_run o = named (script_name o) ++ input_names o.options

-- all that a run may write: its history and its result
abbrev pub written_by_run : RunOptions → List (List ℕ)
written_by_run o = named (history_name o) ++ result_names o.options.out.now o.options.parts

-- what the pool answers over a store that is steady or not, where it was asked for a certificate in this version
abbrev pub IsEnding : RequestSpec → List (List ℕ) → List Directive → Bool → Shape → Version → RunOutcome → Type 0
IsEnding request files script steady shape version (Certified c) = IsCertifiedRun request files shape version c
IsEnding request files script steady shape version (Failed f h) = IsRunFault request files script steady shape (fault.Failed f h)
IsEnding request files script steady shape version (Uncertified verdict h) = IsRunFault request files script steady shape (fault.Uncertified verdict h)

-- the same over some store of regions: without a directory for them, over one in memory, which is steady
abbrev pub EndsOver : Option (List ℕ) → RequestSpec → List (List ℕ) → List Directive → Shape → Version → RunOutcome → Type 0
EndsOver dir request files script shape version ran = (steady : Bool) × (dir ≡ None → steady ≡ true) × IsEnding request files script steady shape version ran

-- the request that is asked for, over what stands under the names of the input, ended so by the script that is named; where
-- it is certified, by a certificate in the version that is asked for. No file that a run writes is one that it reads, and no
-- two are one
pub record Runs (holds : Stored) (known : Known) (o : RunOptions) (ran : RunOutcome) : Type 0 where
  pub files : List (List ℕ)
  pub script : List Directive
  pub input : IsInput holds (stretch_of o.options) o.options.split files
  pub apart : AreApart known (read_by_run o) (written_by_run o)
  pub scripted : IsScript holds (script_name o) script
  pub ends : EndsOver (scratch_name o) (request_asked o.options) files script (run_shape (request_asked o.options) files o.workers o.attempts) o.version ran

-- ---- what stands behind a run

abbrev pub history_of : RunOutcome → History
history_of (Certified c) = c.history
history_of (Failed f h) = h
history_of (Uncertified verdict h) = h

-- the result stands, where it is certified, and a verdict that stood there is empty; else nothing but the history has changed
abbrev pub KeepsResult : Stored → Stored → Option (List ℕ) → RunOptions → RunOutcome → Type 0
KeepsResult old new verdict o (Certified c) =
    Holding new (part_names o.options.out.now o.options.parts) (contents c.outputs.items) × new (name_of_certificate o.options.out.now) c.certificate.items × IsEmptied new verdict
KeepsResult old new verdict o ran = ChangesAmong old new (named (history_name o))

-- the history stands under its name, unless a file of the result has that name (a pipe, a socket or a device may)
abbrev pub KeepsHistory : Stored → Option (List ℕ) → RunOptions → RunOutcome → Type 0
KeepsHistory new verdict o ran =
    IfSome (history_name o) (λ name. Differs name (named verdict ++ result_names o.options.out.now o.options.parts) → new name (history_text (history_of ran)))

-- ---- what each stage leaves

abbrev pub IsHistoryKept : Stored → Option (List ℕ) → History → Type 0
IsHistoryKept new None h = ⊤
IsHistoryKept new (Some name) h = new name (history_text h)

-- the names that the result is written under, where it is certified; the verdict that stood there comes first
abbrev pub names_left : Option (List ℕ) → List ℕ → RunOutcome → List (List ℕ)
names_left verdict out (Certified c) = named verdict ++ result_names out (length c.outputs.items)
names_left verdict out ran = []

abbrev pub IsResultKept : Stored → Option (List ℕ) → List ℕ → RunOutcome → Type 0
IsResultKept new verdict out (Certified c) =
    Holding new (part_names out (length c.outputs.items)) (contents c.outputs.items) × new (name_of_certificate out) c.certificate.items × IsEmptied new verdict
IsResultKept new verdict out ran = ⊤

-- why a result was not all written; without one nothing is refused
abbrev pub IsResultRefused : Stored → Stored → Faulty → Option (List ℕ) → List ℕ → RunOutcome → FileFault → Type 0
IsResultRefused old new unwritable verdict out (Certified c) fault =
    IsWriteRefusal old new unwritable (named verdict ++ result_names out (length c.outputs.items)) (no_text verdict ++ (contents c.outputs.items ++ c.certificate.items ∷ [])) fault
IsResultRefused old new unwritable verdict out ran fault = ⊥

-- where a result is certified there are pairs, if they are needed
abbrev pub HasPairsMade : Bool → RunOutcome → Type 0
HasPairsMade needed (Certified c) = HasPairs needed c.pairs
HasPairsMade needed ran = ⊤

-- pairs are needed, and a result is certified that has none
abbrev pub IsPairlessRun : Bool → RunOutcome → Fault → Type 0
IsPairlessRun needed (Certified c) NoPairs = (needed ≡ true) × (c.pairs ≡ 0)
IsPairlessRun needed ran fault = ⊥

-- what `run` did where it tells of a run
pub record AnswersRun (old new : Stored) (unreadable : Faulty) (known : Known) (o : RunOptions) (text : List ℕ) (status : ℕ) : Type 0 where
  pub ran : RunOutcome
  pub runs : Runs old known o ran
  pub pairs : HasPairsMade o.need_pairs ran
  pub told : ReportsRan ran text status
  pub verdict : Option (List ℕ)
  pub stood : IsOldVerdict old unreadable known o.options.out.now verdict
  pub apart : AreApart known (read_by_run o ++ written_by_run o) (named verdict)
  pub result : KeepsResult old new verdict o ran
  pub history : KeepsHistory new verdict o ran

-- ---- why there is no run, or not all of it was written

abbrev pub AreBadWorkers : ℕ → Type 0
AreBadWorkers n = (n ≡ 0) ⊎ (64 < n)

abbrev pub AreBadAttempts : ℕ → Type 0
AreBadAttempts n = (n ≡ 0) ⊎ (16 < n)

abbrev pub AreGoodWorkers : ℕ → Type 0
AreGoodWorkers n = (1 ≤ n) × (n ≤ 64)

abbrev pub AreGoodAttempts : ℕ → Type 0
AreGoodAttempts n = (1 ≤ n) × (n ≤ 16)

-- the number of workers; that being good, the number of attempts
abbrev pub IsCrewRefusal : RunOptions → Fault → Type 0
IsCrewRefusal o BadWorkers = AreBadWorkers o.workers
IsCrewRefusal o BadAttempts = AreGoodWorkers o.workers × AreBadAttempts o.attempts
IsCrewRefusal o fault = ⊥

-- the options ask for a run that can be had
pub record AreGood (o : RunOptions) : Type 0 where
  pub job : IsAsked o.options
  pub workers : AreGoodWorkers o.workers
  pub attempts : AreGoodAttempts o.attempts

-- the script can't be read, or a line of it is bad
abbrev pub IsScriptRefusal : Stored → Faulty → Option (List ℕ) → Fault → Type 0
IsScriptRefusal holds unreadable (Some name) (CannotRead told) = unreadable name × (string_bytes told ≡ name)
IsScriptRefusal holds unreadable (Some name) (Script f) = (bytes : List ℕ) × holds name bytes × IsScriptFault bytes f
IsScriptRefusal holds unreadable None (Script f) = IsScriptFault [] f
IsScriptRefusal holds unreadable name OutOfMemory = ⊤
IsScriptRefusal holds unreadable name fault = ⊥

-- the file of a name stands in a directory, as far as it can be told
abbrev pub StandsIn : (List ℕ → List ℕ → Type 0) → List ℕ → List ℕ → Type 0
StandsIn alike dir name = (folder : List ℕ) × IsFolderOf name folder × alike dir folder

-- one of the files stands where regions are kept, and may be written over
abbrev pub IsScratchClash : (List ℕ → List ℕ → Type 0) → List (List ℕ) → Option (List ℕ) → Fault → Type 0
IsScratchClash alike names dir OutOfMemory = ⊤
IsScratchClash alike names (Some dir) (SameFile told) = Contains names (string_bytes told) × StandsIn alike dir (string_bytes told)
IsScratchClash alike names dir fault = ⊥

-- the machine refused memory, or another run has its regions in the directory
abbrev pub IsScratchRefusal : Option (List ℕ) → Fault → Type 0
IsScratchRefusal dir OutOfMemory = ⊤
IsScratchRefusal (Some dir) ScratchInUse = ⊤
IsScratchRefusal dir fault = ⊥

-- why there is no run: the request, the numbers, the script, the input, the directory; each where all before it is good
abbrev pub IsStartRefusal : Stored → Faulty → (List ℕ → List ℕ → Type 0) → Known → RunOptions → Fault → Type 0
IsStartRefusal holds unreadable alike known o fault = IsRequestRefusal o.options fault
    ⊎ (IsAsked o.options × IsCrewRefusal o fault)
    ⊎ (AreGood o × IsScriptRefusal holds unreadable (script_name o) fault)
    ⊎ (AreGood o × ((script : List Directive) × IsScript holds (script_name o) script)
    × IsInputRefusal holds unreadable known (stretch_of o.options) (read_by_run o) (written_by_run o) o.options.split fault)
    ⊎ (AreGood o × ((script : List Directive) × IsScript holds (script_name o) script)
    × ((files : List (List ℕ)) × IsInput holds (stretch_of o.options) o.options.split files) × AreApart known (read_by_run o) (written_by_run o)
    × (IsScratchClash alike (read_by_run o ++ written_by_run o) (scratch_name o) fault ⊎ IsScratchRefusal (scratch_name o) fault))

-- one of these can't be written, and is told
abbrev pub ReportsUnwritten : Faulty → List (List ℕ) → Fault → Type 0
ReportsUnwritten unwritable names told = (e : FileFault) × ReportsFile e told × IsOneUnwritten unwritable names e

-- a file of the result can't be written, or a verdict that stood there can't be emptied, behind the history: those before it stand whole, under it stands what stood
-- there or a beginning of its text, the history stands unless it has the name of one of these, and all else stands as
-- before
pub record IsStoppedAt (old new : Stored) (unwritable : Faulty) (verdict : Option (List ℕ)) (o : RunOptions) (c : Kept) (name : List ℕ) : Type 0 where
  pub before : List (List ℕ)
  pub after : List (List ℕ)
  pub written : List (List ℕ)
  pub text : List ℕ
  pub left : List (List ℕ)
  pub names_are : named verdict ++ result_names o.options.out.now o.options.parts ≡ before ++ name ∷ after
  pub texts_are : no_text verdict ++ (contents c.outputs.items ++ c.certificate.items ∷ []) ≡ written ++ text ∷ left
  pub refused : unwritable name
  pub whole : Holding new before written
  pub begins : Differs name (named (history_name o)) → Begins old new name text
  pub history : IfSome (history_name o) (λ own. Differs own (before ++ name ∷ []) → new own (history_text c.history))
  pub others : ChangesAmong old new (named (history_name o) ++ (before ++ name ∷ []))

-- not all of a certified result was written
abbrev pub IsResultStopped : Stored → Stored → Faulty → Option (List ℕ) → RunOptions → Kept → Fault → Type 0
IsResultStopped old new unwritable verdict o c (CannotWrite told) = IsStoppedAt old new unwritable verdict o c (string_bytes told)
IsResultStopped old new unwritable verdict o c OutOfMemory = ⊤
IsResultStopped old new unwritable verdict o c fault = ⊥

-- under the name of the history stands what stood there or a beginning of it, and nothing else has changed
abbrev pub BeginsHistory : Stored → Stored → RunOptions → RunOutcome → Type 0
BeginsHistory old new o ran = ChangesAmong old new (named (history_name o)) × IfSome (history_name o) (λ name. Begins old new name (history_text (history_of ran)))

-- the history could not be written, and nothing else was; or a file of a certified result could not
abbrev pub IsUnkept : Stored → Stored → Faulty → Option (List ℕ) → RunOptions → RunOutcome → Fault → Type 0
IsUnkept old new unwritable verdict o (Certified c) fault = (BeginsHistory old new o (Certified c) × ReportsUnwritten unwritable (named (history_name o)) fault)
    ⊎ IsResultStopped old new unwritable verdict o c fault
IsUnkept old new unwritable verdict o ran fault = BeginsHistory old new o ran × ReportsUnwritten unwritable (named (history_name o)) fault

-- why nothing of a run may be kept: pairs are missing, or the verdict that stands there is a file that it reads or writes besides
abbrev pub IsRunRefused : Stored → Known → RunOptions → Fault → Type 0
IsRunRefused holds known o fault = ((ran : RunOutcome) × Runs holds known o ran × IsPairlessRun o.need_pairs ran fault)
    ⊎ IsVerdictShared holds known o.options.out.now (read_by_run o ++ written_by_run o) fault

-- why nothing is told: there is no run, or it may not be kept, and nothing was written; or not all that it leaves could be written
abbrev pub IsRunUnanswered : Stored → Stored → Faulty → Faulty → (List ℕ → List ℕ → Type 0) → Known → RunOptions → Fault → Type 0
IsRunUnanswered old new unreadable unwritable alike known o fault = (ChangesAmong old new [] × IsStartRefusal old unreadable alike known o fault)
    ⊎ (ChangesAmong old new [] × IsRunRefused old known o fault)
    ⊎ ((ran : RunOutcome) × (verdict : Option (List ℕ)) × Runs old known o ran × IsOldVerdict old unreadable known o.options.out.now verdict
    × IsUnkept old new unwritable verdict o ran fault)
