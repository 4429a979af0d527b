use Rattle.std.proofs.Common.{take}
use Rattle.mr_shard_files.specs.Streams.{AreTailsOf}
use Rattle.mr_shard_files.proofs.tails.tails_of.Given as goal

abbrev pub invariant-loop-shard : goal.invariant-loop-shard
invariant-loop-shard g l = AreTailsOf (take l.shard l.parts) l.tails.items
