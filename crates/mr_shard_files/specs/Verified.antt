-- When files are those that a verdict tells of: its parts, the pairs that their lines state, the ranges of its input.
use Rattle.std.specs.Prelude.{◌≡◌, ◌≢◌, ◌⊎◌, ℕ, ◌+◌, ◌<◌, ◌≤◌, ◌^◌, Bool, true, ⊤, List, [], ◌∷◌, Option, None, Some, IsUtf8, length, string_bytes, take}
use Rattle.std.specs.List.{AllByRecursion}
use Rattle.sha2.specs.Sha256.{sha256}
use Rattle.mr_files.specs.Holding.{Faulty, Stored}
use Rattle.mr_files.specs.Names.{name_of_verdict}
use Rattle.mr_files.specs.Ranges.{IsRangeOf, IsRangeRefusal}
use Rattle.mr_files.specs.declared.ranges.RangeFault.{RangeFault}
use Rattle.mr_files.specs.declared.ranges.RangeFault.TheVariants.{File}
use Rattle.mr_jobs.specs.JobSpec.{JobSpec, RequestSpec}
use Rattle.mr_shards.specs.Gaps.{note_at}
use Rattle.mr_shards.specs.RangeNotes.{RangeNote}
use Rattle.mr_shards.specs.Truth.{Asks, AsksNone}
use Rattle.mr_shards.specs.Verdict.{Told}
use Rattle.mr_shard_files.specs.Beside.{ReportsCause, StandsBeside}
use Rattle.mr_shard_files.specs.Faults.{IsPartFault, IsUnheard}
use Rattle.mr_shard_files.specs.Merging.{IsHeard}
use Rattle.mr_shard_files.specs.Pairs.{IsTotalOf, TotalFits}
use Rattle.mr_shard_files.specs.declared.fault.ShardFault.{ShardFault}
use Rattle.mr_shard_files.specs.declared.fault.ShardFault.TheVariants.{CannotRead, NoRequest, OtherInput, OtherOutputs, OtherTotal, OutOfMemory}

-- ---- files that stand

-- the texts stand beside that name as the parts from this one on, and the verdict tells of each
abbrev pub AreNoted : Stored → List ℕ → Told → ℕ → List (List ℕ) → Type 0
AreNoted holds beside v p [] = ⊤
AreNoted holds beside v p (t ∷ ts) = StandsBeside holds p beside t × ReportsCause p v t × AreNoted holds beside v (p + 1) ts

-- the text stands beside that name as this part, and the verdict tells of it; so many pairs its lines state
abbrev pub IsNotedPart : Stored → JobSpec → List ℕ → Told → ℕ → Option ℕ → Type 0
IsNotedPart holds job beside v p total = (text : List ℕ) × StandsBeside holds p beside text × ReportsCause p v text × IsTotalOf job (text ∷ []) total

-- the bytes that the note tells of stand in the file of its name, at the note's place
abbrev pub StandsInFile : Stored → RangeNote → Type 0
StandsInFile holds r = (file bytes : List ℕ) × (ends : Bool) × holds r.name file
    × IsRangeOf file r.from (Some (r.from + r.length)) bytes ends × (r.digest ≡ sha256 bytes)

-- ---- a verdict that is verified

-- where the parts are: in the folder that is named, else beside the verdict
abbrev pub beside_name : List ℕ → Option (List ℕ) → List ℕ
beside_name verdict None = verdict
beside_name verdict (Some dir) = name_of_verdict dir

-- the parts are those that the verdict tells of, one for each partition of its request, and their lines state its pairs; where it
-- is asked, each range of its input stands in its file
pub record IsTrueBeside (holds : Stored) (beside : List ℕ) (inputs : Bool) (v : Told) : Type 0 where
  pub request : RequestSpec
  pub asks : Asks v request
  pub outputs : length v.outputs ≡ request.parts
  pub texts : List (List ℕ)
  pub count : length texts ≡ request.parts
  pub parts : AreNoted holds beside v 0 texts
  pub total : TotalFits request.job texts v.pairs
  pub ranges : inputs ≡ true → AllByRecursion (StandsInFile holds) v.inputs

-- the verdict stands under its name, and is true of the parts in the folder, and where it is asked of the input
abbrev pub IsVerified : Stored → List ℕ → Option (List ℕ) → Bool → Told → Type 0
IsVerified holds verdict out inputs v = IsHeard holds verdict v × IsTrueBeside holds (beside_name verdict out) inputs v

-- ---- why one isn't

-- the first part that can't be read, or is another than the verdict tells of
pub record IsFirstOther (holds : Stored) (unreadable : Faulty) (beside : List ℕ) (v : Told) (fault : ShardFault) : Type 0 where
  pub texts : List (List ℕ)
  pub within : length texts < length v.outputs
  pub parts : AreNoted holds beside v 0 texts
  pub why : IsPartFault holds unreadable (length texts) 0 beside v fault

-- all parts are those that the verdict tells of, and the pairs that their lines state are not the verdict's
pub record IsOtherTotal (holds : Stored) (beside : List ℕ) (v : Told) : Type 0 where
  pub request : RequestSpec
  pub asks : Asks v request
  pub texts : List (List ℕ)
  pub count : length texts ≡ request.parts
  pub parts : AreNoted holds beside v 0 texts
  pub other : TotalFits request.job texts v.pairs → ⊥

-- a range of the file is not read so: the file ends before, a line goes on there, or it has more than 1 GiB
abbrev pub IsNoRange : Stored → Faulty → RangeNote → RangeFault → Type 0
IsNoRange holds unreadable r (File fault) = ⊥
IsNoRange holds unreadable r fault = IsRangeRefusal holds unreadable r.name r.from (Some (r.from + r.length)) (2 ^ 30) fault

-- the note tells of other bytes than stand there
abbrev pub IsOtherThere : Stored → RangeNote → Type 0
IsOtherThere holds r = (file bytes : List ℕ) × (ends : Bool) × holds r.name file
    × IsRangeOf file r.from (Some (r.from + r.length)) bytes ends × (r.digest ≢ sha256 bytes)

-- the range of that number is not the one that the note tells of: it can't be read, no file has that name or so many bytes, or
-- other bytes stand there
abbrev pub IsRangeFault : Stored → Faulty → ℕ → RangeNote → ShardFault → Type 0
IsRangeFault holds unreadable at r (CannotRead told) = unreadable r.name × (string_bytes told ≡ r.name)
IsRangeFault holds unreadable at r (OtherInput input) = (input ≡ at) × ((¬ IsUtf8 r.name) ⊎ ((2 ^ 64 ≤ r.from + r.length)
    ⊎ (((fault : RangeFault) × IsNoRange holds unreadable r fault) ⊎ IsOtherThere holds r)))
IsRangeFault holds unreadable at r OutOfMemory = ⊤
IsRangeFault holds unreadable at r fault = ⊥

-- the first range that is another or can't be read; those before it stand in their files
pub record IsFirstRange (holds : Stored) (unreadable : Faulty) (ranges : List RangeNote) (fault : ShardFault) : Type 0 where
  pub at : ℕ
  pub within : at < length ranges
  pub before : AllByRecursion (StandsInFile holds) (take at ranges)
  pub why : IsRangeFault holds unreadable at (note_at ranges at) fault

-- the verdict is about no request, or tells of another number of outputs than partitions
abbrev pub IsAboutNone : Told → ShardFault → Type 0
IsAboutNone v NoRequest = AsksNone v
IsAboutNone v (OtherOutputs shard) = (shard ≡ 0) × ((request : RequestSpec) × Asks v request × (length v.outputs ≢ request.parts))
IsAboutNone v OutOfMemory = ⊤
IsAboutNone v fault = ⊥

-- why a verdict that was read is not true of the files, in the order of the tests
abbrev pub IsUntrue : Stored → Faulty → List ℕ → Bool → Told → ShardFault → Type 0
IsUntrue holds unreadable beside inputs v fault = IsAboutNone v fault ⊎ (IsFirstOther holds unreadable beside v fault
    ⊎ (((fault ≡ OtherTotal 0) × IsOtherTotal holds beside v) ⊎ ((inputs ≡ true) × IsFirstRange holds unreadable v.inputs fault)))

-- why there is no verified verdict: none is read under the name, it is not true of the files, or memory is wanting
abbrev pub IsUnverified : Stored → Faulty → List ℕ → Option (List ℕ) → Bool → ShardFault → Type 0
IsUnverified holds unreadable verdict out inputs fault = (fault ≡ OutOfMemory) ⊎ (IsUnheard holds unreadable 0 verdict fault
    ⊎ ((v : Told) × IsHeard holds verdict v × IsUntrue holds unreadable (beside_name verdict out) inputs v fault))
