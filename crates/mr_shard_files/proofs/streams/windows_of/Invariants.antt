use Rattle.std.proofs.Common.{take}
use Rattle.mr_shard_files.specs.Streams.{AreWindowsOf}
use Rattle.mr_shard_files.proofs.streams.windows_of.Given as goal

abbrev pub invariant-loop-shard : goal.invariant-loop-shard
invariant-loop-shard g l = AreWindowsOf (take l.shard l.parts) l.windows.items
