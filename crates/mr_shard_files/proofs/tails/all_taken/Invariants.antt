use Rattle.std.proofs.Common.{take}
use Rattle.mr_shard_files.specs.Streams.{AreTaken}
use Rattle.mr_shard_files.proofs.tails.all_taken.Given as goal

abbrev pub invariant-loop-shard : goal.invariant-loop-shard
invariant-loop-shard l = AreTaken (take l.shard l.tails) l.hashers.items
