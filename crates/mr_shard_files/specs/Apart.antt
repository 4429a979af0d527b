-- The folder of a result, and those of shards.
use Rattle.std.specs.Prelude.{◌≢◌, ℕ, ◌<◌, List, length, slice_index_or, take, []}
use Rattle.std.specs.List.{AllByRecursion}
use Rattle.mr_files.specs.Folders.{IsFolderOf}
use Rattle.mr_shard_files.specs.declared.fault.ShardFault.{ShardFault}
use Rattle.mr_shard_files.specs.declared.fault.ShardFault.TheVariants.{SameFolder}

-- the verdict of that name stands in another folder
abbrev pub IsApart : List ℕ → List ℕ → Type 0
IsApart dir name = (folder : List ℕ) × IsFolderOf name folder × (dir ≢ folder)

-- so does each
abbrev pub AreApart : List (List ℕ) → List ℕ → Type 0
AreApart names dir = AllByRecursion (IsApart dir) names

-- a verdict may stand in that folder, perhaps under another name of it, and none of those before does
abbrev pub IsSameFolder : (List ℕ → List ℕ → Type 0) → List (List ℕ) → List ℕ → ShardFault → Type 0
IsSameFolder alike names dir (SameFolder shard) =
    (shard < length names) × AreApart (take shard names) dir × ((folder : List ℕ) × IsFolderOf (slice_index_or names shard []) folder × alike dir folder)
IsSameFolder alike names dir fault = ⊥
