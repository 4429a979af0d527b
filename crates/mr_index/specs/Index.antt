-- All that a job emits over files that are cut, and in parts, one for each split.
use Rattle.std.specs.Prelude.{◌≡◌, ℕ, ◌<◌, ◌≤◌, ◌==◌, ◌^◌, not, List, [], length, filter, slice_index_or}
use Rattle.mr_bytes.specs.declared.RecordName.{RecordName}
use Rattle.mr_bytes.specs.Pairs.{Triple}
use Rattle.mr_input.specs.Files.{split_total}
use Rattle.mr_jobs.specs.JobSpec.{JobSpec}
use Rattle.mr_splits.specs.Named.{NamedRecord, is_left_out}
use Rattle.mr_splits.specs.Cut.{Cut}
use Rattle.mr_sequential.specs.Emitted.{emitted}

-- all triples of a job over files that are cut, without the left-out records
abbrev pub triples_of : JobSpec → Cut → List RecordName → List Triple
triples_of job cut skips = emitted job cut.size cut.files skips

-- how many of the records are mapped
abbrev pub mapped_among : List RecordName → List NamedRecord → ℕ
mapped_among skips rs = length (filter (λ r. not (is_left_out skips r.name)) rs)

-- of triples, those of a split
abbrev pub triples_in : ℕ → List Triple → List Triple
triples_in split ts = filter (λ t. t.name.split == split) ts

-- the parts of a plan's splits, one for each, in order: all that the job emits there
pub record AreParts (job : JobSpec) (cut : Cut) (skips : List RecordName) (parts : List (List Triple)) : Type 0 where
  pub size : 0 < cut.size
  pub few : length parts ≤ 2 ^ 20
  pub one_each : length parts ≡ split_total cut.size cut.files
  pub each : (s : ℕ) → s < length parts → slice_index_or parts s [] ≡ triples_in s (triples_of job cut skips)

-- they are the parts of some job, over some files that are cut
pub record AreAllParts (parts : List (List Triple)) : Type 0 where
  pub job : JobSpec
  pub cut : Cut
  pub skips : List RecordName
  pub are : AreParts job cut skips parts
