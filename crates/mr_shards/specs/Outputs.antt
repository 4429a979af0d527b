-- The outputs that shards have for one partition.
use Rattle.std.specs.Prelude.{◌≡◌, ℕ, ◌<◌, ◌^◌, List, [], ◌∷◌, length, map}
use Rattle.std.specs.List.{AllByRecursion}
use Rattle.mr_jobs.specs.JobSpec.{JobSpec, RequestSpec}
use Rattle.mr_sequential.specs.Emitted.{emitted}
use Rattle.mr_sequential.specs.Sequential.{sequential}
use Rattle.mr_shards.specs.declared.cursor.Cursor.{Cursor}
use Rattle.mr_shards.specs.declared.merger.ShardText.{ShardText}
use Rattle.mr_shards.specs.Lines.{groups_in, NoneFalls}
use Rattle.mr_shards.specs.Cursors.{left}
use Rattle.mr_shards.specs.Refused.{IsRestOf}
use Rattle.mr_shards.specs.Portions.{AreCutAtLines, Part, Portion, past_shard, shift_of, whole_of}
use Rattle.mr_shards.specs.Spots.{SkipsExist, left_out_of}

-- the part that an output is read as
abbrev pub part_in : JobSpec → ShardText → Part
part_in job o = record { shift = past_shard o.files; groups = groups_in job o.text.now }

abbrev pub parts_in : JobSpec → List ShardText → List Part
parts_in job os = map (part_in job) os

-- what is left stands as an output does
pub record Stands (job : JobSpec) (c : Cursor) : Type 0 where
  pub rest : IsRestOf job c
  pub in_order : NoneFalls (left job c)

-- what a judge's yes says of a shard, with the limits of its input: the left-out records exist, and its pairs, its files
-- and their bytes can be counted
pub record IsJudged (request : RequestSpec) (s : Portion) : Type 0 where
  pub skips_exist : SkipsExist request.split s.files s.skips
  pub few_pairs : length (emitted request.job request.split s.files s.skips) < 2 ^ 64
  pub few_files : length s.files < 2 ^ 64
  pub small_files : AllByRecursion (λ f. length f < 2 ^ 64) s.files

-- each output is that of the sequential execution over its shard, a portion of the input
abbrev pub AreOutputsOf : RequestSpec → ℕ → List Portion → List ShardText → Type 0
AreOutputsOf request p [] [] = Unit {0}
AreOutputsOf request p [] (o ∷ os) = ⊥
AreOutputsOf request p (s ∷ ss) [] = ⊥
AreOutputsOf request p (s ∷ ss) (o ∷ os) = (past_shard o.files ≡ shift_of s) × (o.text.now ≡ sequential request s.files s.skips p) × AreOutputsOf request p ss os

-- whatever shards the outputs are of, the text is the output of the sequential execution over all their files, those that
-- were cut whole again
abbrev pub IsOutputOfAll : JobSpec → List ShardText → List ℕ → Type 0
IsOutputOfAll job outputs text = (request : RequestSpec) (shards : List Portion) (p : ℕ) → job ≡ request.job → 0 < request.split → AreCutAtLines shards
    → AllByRecursion (IsJudged request) shards → AreOutputsOf request p shards outputs
    → text ≡ sequential request (whole_of shards) (left_out_of request.split shards) p
