-- The input of a command, and what can't be written.
use Rattle.std.specs.Prelude.{◌≡◌, ◌⊎◌, ℕ, ◌<◌, ◌≤◌, ◌^◌, Bool, List, length, ⊤, string_bytes}
use Rattle.mr_bytes.specs.declared.RecordName.{RecordName}
use Rattle.mr_input.specs.Files.{split_total, total_size}
use Rattle.mr_input.specs.declared.InputFault.TheVariants.{TooManyFiles, TooLarge}
use Rattle.mr_files.specs.Holding.{Faulty, Stored}
use Rattle.mr_files.specs.Identities.{AreApart, IsFirstShared, Known}
use Rattle.mr_files.specs.Refusals.{IsUnwrittenAt}
use Rattle.mr_files.specs.Stretches.{AreTaken, IsUntaken, Stretch}
use Rattle.mr_files.specs.declared.ranges.RangeFault.{RangeFault}
use Rattle.mr_files.specs.declared.ranges.RangeFault.TheVariants as range
use Rattle.mr_files.specs.declared.store.FileFault.TheVariants as file
use Rattle.mr_args.specs.declared.fault.Fault.{Fault}
use Rattle.mr_args.specs.declared.fault.Fault.TheVariants.{BadSkipList, Input, SameFile, TooManySplits, PastEnd, InsideALine, CannotRead, CannotWrite, OutOfMemory}
use Rattle.mr_args.specs.declared.request.Options.{Options}
use Rattle.mr_args.specs.Asked.{AsksForOtherJob, IsRequestRefusal, RangeStands, WithinLimits, request_asked}
use Rattle.mr_args.specs.SkipList.{SpellsNames}
use Rattle.mr_commands.specs.Named.{input_names, stretch_of}
use Rattle.mr_commands.specs.declared.input.RunInput.{RunInput}

-- these bytes are taken of the files, within the limits of an input, and the last file ends with them or not
pub record AreRead (holds : Stored) (s : Stretch) (files : List (List ℕ)) (ends : Bool) : Type 0 where
  pub taken : AreTaken holds s files ends
  pub few : length s.names ≤ 1024
  pub small : total_size files ≤ 2 ^ 30

-- these bytes are taken of the files, and are an input that fits splits of this size
pub record IsTakenInput (holds : Stored) (s : Stretch) (size : ℕ) (files : List (List ℕ)) (ends : Bool) : Type 0 where
  pub taken : AreTaken holds s files ends
  pub fits : split_total size files ≤ 2 ^ 20

-- whether the last file ends with them or not
abbrev pub IsInput : Stored → Stretch → ℕ → List (List ℕ) → Type 0
IsInput holds s size files = (ends : Bool) × IsTakenInput holds s size files ends

-- how the fault is told of a file that is not taken
abbrev pub told_of_unread : ℕ → RangeFault → Fault
told_of_unread at (range.File (file.CannotRead name)) = CannotRead name
told_of_unread at (range.File (file.CannotWrite name)) = CannotWrite name
told_of_unread at (range.File file.OutOfMemory) = OutOfMemory
told_of_unread at range.PastEnd = PastEnd at
told_of_unread at (range.InsideALine byte) = InsideALine at byte
told_of_unread at range.TooLong = Input TooLarge

-- why files are not read as an input: the first that can't be taken within the limit of bytes; or all are taken, and are too many
abbrev pub IsUnreadInput : Stored → Faulty → Stretch → Fault → Type 0
IsUnreadInput holds unreadable s (CannotRead name) = (at : ℕ) × IsUntaken holds unreadable s (2 ^ 30) at (range.File (file.CannotRead name))
IsUnreadInput holds unreadable s (PastEnd at) = IsUntaken holds unreadable s (2 ^ 30) at range.PastEnd
IsUnreadInput holds unreadable s (InsideALine at byte) = IsUntaken holds unreadable s (2 ^ 30) at (range.InsideALine byte)
IsUnreadInput holds unreadable s (Input TooLarge) = (at : ℕ) × IsUntaken holds unreadable s (2 ^ 30) at range.TooLong
IsUnreadInput holds unreadable s (Input TooManyFiles) =
    (files : List (List ℕ)) × (ends : Bool) × AreTaken holds s files ends × (total_size files ≤ 2 ^ 30) × (1024 < length s.names)
IsUnreadInput holds unreadable s OutOfMemory = ⊤
IsUnreadInput holds unreadable s fault = ⊥

-- why there is no input: what can't be read, and the limits; then a file that is written and is one of those that are read,
-- or is written twice; then the fit
abbrev pub IsInputRefusal : Stored → Faulty → Known → Stretch → List (List ℕ) → List (List ℕ) → ℕ → Fault → Type 0
IsInputRefusal holds unreadable known s read written size (SameFile name) =
    (files : List (List ℕ)) × (ends : Bool) × AreRead holds s files ends × IsFirstShared known read written (string_bytes name)
IsInputRefusal holds unreadable known s read written size TooManySplits =
    (files : List (List ℕ)) × (ends : Bool) × AreRead holds s files ends × AreApart known read written × (2 ^ 20 < split_total size files)
IsInputRefusal holds unreadable known s read written size fault = IsUnreadInput holds unreadable s fault

-- the options ask for a job that can be had
pub record IsAsked (o : Options) : Type 0 where
  pub own : ¬ AsksForOtherJob o
  pub within : WithinLimits (request_asked o)
  pub range : RangeStands o

-- a job runs on the request that the options ask for, the list that the text spells, and what stands under the names
pub record IsRunInput (holds : Stored) (o : Options) (text : List ℕ) (r : RunInput) : Type 0 where
  pub asked : IsAsked o
  pub request : r.request ≡ request_asked o
  pub spelled : SpellsNames text r.skips.items
  pub input : IsInput holds (stretch_of o) o.split r.input

-- why a job can't begin that writes these files: the request, then the text of the skip list, then the input
abbrev pub IsRunInputRefusal : Stored → Faulty → Known → Options → List ℕ → List (List ℕ) → Fault → Type 0
IsRunInputRefusal holds unreadable known o text written fault = IsRequestRefusal o fault
    ⊎ (IsAsked o × (fault ≡ BadSkipList) × ((names : List RecordName) → ¬ SpellsNames text names))
    ⊎ (IsAsked o × ((names : List RecordName) × SpellsNames text names) × IsInputRefusal holds unreadable known (stretch_of o) (input_names o) written o.split fault)

-- a file of the result can't be written: those before it stand whole, those behind it as before
abbrev pub IsStopped : Stored → Stored → Faulty → List (List ℕ) → List (List ℕ) → Fault → Type 0
IsStopped old new unwritable names texts (CannotWrite name) = IsUnwrittenAt old new unwritable names texts (string_bytes name)
IsStopped old new unwritable names texts OutOfMemory = ⊤
IsStopped old new unwritable names texts fault = ⊥
