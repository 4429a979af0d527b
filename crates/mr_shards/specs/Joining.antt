-- How verdicts are joined one after another.
use Rattle.std.specs.Prelude.{◌≡◌, ℕ, ◌+◌, ◌<◌, ◌≤◌, ◌^◌, List, ◌++◌, length, map}
use Rattle.std.specs.List.{AllByRecursion}
use Rattle.mr_jobs.specs.JobSpec.{RequestSpec}
use Rattle.mr_shards.specs.declared.joining.JoinFault.{JoinFault}
use Rattle.mr_shards.specs.declared.joining.JoinFault.TheVariants.{OtherRequest, TooManyPairs, PlaceTooFar, OutOfMemory}
use Rattle.mr_shards.specs.Joined.{IsNearRange, IsNearShift, IsNearSpot}
use Rattle.mr_shards.specs.Portions.{Shift, behind}
use Rattle.mr_shards.specs.RangeNotes.{RangeNote}
use Rattle.mr_shards.specs.RangeVerdicts.{shift_past}
use Rattle.mr_shards.specs.Spots.{shifted_spot}
use Rattle.mr_shards.specs.Truth.{Asks}
use Rattle.mr_shards.specs.Verdict.{Told}

-- the request of both is one
abbrev pub SameRequest : Told → Told → Type 0
SameRequest m n = (m.job ≡ n.job) × (m.flags ≡ n.flags) × (m.literal ≡ n.literal) × (m.parts ≡ n.parts) × (m.split ≡ n.split)

-- the places of a verdict fit where they move so far, with those ranges behind its own
pub record Fit (past : Shift) (v : Told) (rest : List RangeNote) : Type 0 where
  pub ranges : AllByRecursion IsNearRange v.inputs
  pub spots : AllByRecursion IsNearSpot (map (shifted_spot past) v.left_out)
  pub shift : IsNearShift (behind past (shift_past v.inputs rest))

-- one verdict went in, with those ranges behind its own
pub record Follows (request : RequestSpec) (old new v : Told) (past next : Shift) (rest : List RangeNote) : Type 0 where
  pub same : SameRequest old new
  pub asks : Asks v request
  pub few : length v.inputs < 2 ^ 64
  pub fit : Fit past v rest
  pub left_out_is : new.left_out ≡ old.left_out ++ map (shifted_spot past) v.left_out
  pub pairs_are : new.pairs ≡ old.pairs + v.pairs
  pub few_pairs : new.pairs < 2 ^ 64
  pub next_is : next ≡ behind past (shift_past v.inputs rest)

-- why one verdict does not go in
abbrev pub IsShardFault : RequestSpec → Told → Told → ℕ → Shift → List RangeNote → JoinFault → Type 0
IsShardFault request old v shard past rest (OtherRequest at) = (at ≡ shard) × (Asks v request → ⊥)
IsShardFault request old v shard past rest TooManyPairs = Asks v request × (2 ^ 64 ≤ old.pairs + v.pairs)
IsShardFault request old v shard past rest (PlaceTooFar at) =
    (at ≡ shard) × Asks v request × (old.pairs + v.pairs < 2 ^ 64) × (Fit past v rest → ⊥)
IsShardFault request old v shard past rest OutOfMemory = Unit {0}
