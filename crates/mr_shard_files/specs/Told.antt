-- How the faults of what a merge calls are told.
use Rattle.std.specs.Prelude.{ℕ}
use Rattle.mr_files.specs.declared.store.FileFault.{FileFault}
use Rattle.mr_files.specs.declared.store.FileFault.TheVariants as file
use Rattle.mr_files.specs.declared.ranges.RangeFault.{RangeFault}
use Rattle.mr_files.specs.declared.ranges.RangeFault.TheVariants as range
use Rattle.mr_shards.specs.declared.merger.MergeFault.{MergeFault}
use Rattle.mr_shards.specs.declared.merger.MergeFault.TheVariants as merge
use Rattle.mr_shards.specs.declared.joining.JoinFault.{JoinFault}
use Rattle.mr_shards.specs.declared.joining.JoinFault.TheVariants as join
use Rattle.mr_shard_files.specs.declared.fault.ShardFault.{ShardFault}
use Rattle.mr_shard_files.specs.declared.fault.ShardFault.TheVariants.{BadLine, CannotRead, CannotWrite, FarPlace, NoSuchFile, OtherInput, OtherRequest, OutOfMemory, PlaceTooFar, TooManyFiles, TooManyPairs, TotalTooLarge}

abbrev pub told_of_file : FileFault → ShardFault
told_of_file (file.CannotRead name) = CannotRead name
told_of_file (file.CannotWrite name) = CannotWrite name
told_of_file file.OutOfMemory = OutOfMemory

abbrev pub told_of_join : JoinFault → ShardFault
told_of_join (join.OtherRequest shard) = OtherRequest shard
told_of_join join.TooManyPairs = TooManyPairs
told_of_join (join.PlaceTooFar shard) = FarPlace shard
told_of_join join.OutOfMemory = OutOfMemory

-- of a range of an input
abbrev pub told_of_range : ℕ → RangeFault → ShardFault
told_of_range input (range.File fault) = told_of_file fault
told_of_range input fault = OtherInput input

-- of the outputs that shards have for a partition
abbrev pub told_of_merge : ℕ → MergeFault → ShardFault
told_of_merge partition (merge.BadLine shard line) = BadLine shard partition line
told_of_merge partition merge.TotalTooLarge = TotalTooLarge partition
told_of_merge partition merge.TooManyFiles = TooManyFiles
told_of_merge partition (merge.NoSuchFile shard) = NoSuchFile shard partition
told_of_merge partition merge.PlaceTooFar = PlaceTooFar partition
told_of_merge partition merge.OutOfMemory = OutOfMemory
