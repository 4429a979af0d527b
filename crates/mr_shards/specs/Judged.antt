-- What a judge's yes says of a shard.
use Rattle.std.specs.Prelude.{◌≡◌, ℕ, Bool, ◌<◌, ◌≤◌, ◌^◌, List, length}
use Rattle.mr_bytes.specs.declared.RecordName.{RecordName}
use Rattle.mr_bytes.specs.Lists.{Rises}
use Rattle.mr_bytes.specs.Order.{record_order}
use Rattle.mr_input.specs.Files.{nth_file, total_size}
use Rattle.mr_jobs.specs.JobSpec.{RequestSpec}
use Rattle.mr_certform.specs.Value.{Contents}
use Rattle.mr_sequential.specs.Emitted.{emitted}
use Rattle.mr_sequential.specs.Good.{IsGood}
use Rattle.mr_sequential.specs.Sequential.{sequential}
use Rattle.mr_shards.specs.Outputs.{IsJudged}
use Rattle.mr_shards.specs.Spots.{SkipsExist, spots_of}
use Rattle.mr_shards.specs.Truth.{IsTrueOf, notes_for, ranges_for, verdict_for}

-- where a result is good, over files within the limits of an input, these files are a shard whose outputs can be merged
abbrev pub GoodIsJudged : Type 0
GoodIsJudged = (request : RequestSpec) (files outputs : List (List ℕ)) (c : Contents) → length files ≤ 1024 → total_size files ≤ 2 ^ 30
    → IsGood request files outputs c → (cut : Bool) → IsJudged request (record { cut = cut; files = files; skips = c.skips })

-- where left-out names rise and exist, and outputs and pairs are those without them, the verdict with notes of a stretch of files
-- is true of it; its first file may begin anywhere, and its last one may go on
abbrev pub StretchIsTrue : Type 0
StretchIsTrue = (request : RequestSpec) (names files part_names outputs : List (List ℕ)) (from : ℕ) (ends : Bool) (skips : List RecordName) (pairs : ℕ)
    → length names ≡ length files → length part_names ≡ length outputs → Rises record_order skips → SkipsExist request.split files skips
    → length outputs ≡ request.parts → ((p : ℕ) → p < request.parts → nth_file outputs p ≡ sequential request files skips p)
    → pairs ≡ length (emitted request.job request.split files skips)
    → IsTrueOf request
    (verdict_for request (ranges_for names from files ends) (notes_for part_names outputs) (spots_of request.split files skips) pairs)
    files outputs
