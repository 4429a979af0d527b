-- What stands beside the verdicts of shards.
use Rattle.std.specs.Prelude.{◌≡◌, ℕ, ◌<◌, List, [], ◌∷◌, length, slice_index_or}
use Rattle.std.specs.List.{AllByRecursion}
use Rattle.mr_input.specs.Files.{nth_file}
use Rattle.mr_files.specs.Folders.{IsFolderOf}
use Rattle.mr_files.specs.Holding.{Holding, Stored}
use Rattle.mr_files.specs.Names.{name_of_part}
use Rattle.mr_jobs.specs.JobSpec.{JobSpec}
use Rattle.mr_shards.specs.declared.shift.ShardFiles.{ShardFiles}
use Rattle.mr_shards.specs.declared.merger.ShardText.{ShardText}
use Rattle.mr_shards.specs.Merged.{texts}
use Rattle.mr_shards.specs.Portions.{merged_portions}
use Rattle.mr_shards.specs.Outputs.{IsOutputOfAll, parts_in}
use Rattle.mr_shards.specs.Refused.{IsShardText}
use Rattle.mr_shards.specs.Joined.{inputs_of}
use Rattle.mr_shards.specs.RangeVerdicts.{files_of}
use Rattle.mr_shards.specs.Truth.{IsNoteOf}
use Rattle.mr_shards.specs.Verdict.{Note, Told}

-- a part stands in the folder of the verdict of that name
abbrev pub StandsBeside : Stored → ℕ → List ℕ → List ℕ → Type 0
StandsBeside holds p name text = (folder : List ℕ) × IsFolderOf name folder × holds (name_of_part folder p) text

abbrev pub no_note : Note
no_note = record { name = []; length = 0; digest = [] }

-- the verdict tells of these bytes as that output: their length and their digest
abbrev pub ReportsCause : ℕ → Told → List ℕ → Type 0
ReportsCause p v text = (p < length v.outputs) × IsNoteOf (slice_index_or v.outputs p no_note) text

-- each verdict of its own
abbrev pub Tells : ℕ → List Told → List (List ℕ) → Type 0
Tells p [] [] = Unit {0}
Tells p (v ∷ vs) (t ∷ ts) = ReportsCause p v t × Tells p vs ts
Tells p _ _ = ⊥

-- the files of the shard that each verdict is about; the shards behind may go on with the last one
abbrev pub files_told : List Told → List ShardFiles
files_told [] = []
files_told (v ∷ vs) = files_of v.inputs (inputs_of vs) ∷ files_told vs

-- the texts, each with its shard's files
abbrev pub AreOutputs : List Told → List (List ℕ) → List ShardText → Type 0
AreOutputs [] [] [] = Unit {0}
AreOutputs (v ∷ vs) (t ∷ ts) (o ∷ os) = (o.files ≡ files_of v.inputs (inputs_of vs)) × (o.text.now ≡ t) × AreOutputs vs ts os
AreOutputs _ _ _ = ⊥

-- the text is merged of what stands beside the verdicts for that partition, each as its verdict tells, and each of lines of
-- the job with keys in turn and places in the shard's files; and whatever judged shards those are of, it is the output of the sequential execution over all
pub record IsPartition (holds : Stored) (job : JobSpec) (names : List (List ℕ)) (vs : List Told) (p : ℕ) (text : List ℕ) : Type 0 where
  pub parts : List (List ℕ)
  pub outputs : List ShardText
  pub stand : Holding (StandsBeside holds p) names parts
  pub told : Tells p vs parts
  pub outputs_are : AreOutputs vs parts outputs
  pub lines : AllByRecursion (IsShardText job) outputs
  pub merged : text ≡ texts job (merged_portions (parts_in job outputs))
  pub whole : IsOutputOfAll job outputs text

-- those of the first partitions
abbrev pub ArePartitions : Stored → JobSpec → List (List ℕ) → List Told → List (List ℕ) → Type 0
ArePartitions holds job names vs texts = (p : ℕ) → p < length texts → IsPartition holds job names vs p (nth_file texts p)
