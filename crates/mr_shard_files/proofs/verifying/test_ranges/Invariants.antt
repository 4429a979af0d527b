use Rattle.std.proofs.Common.{take}
use Rattle.std.specs.List.{AllByRecursion}
use Rattle.mr_shard_files.specs.Verified.{StandsInFile}
use Rattle.mr_shard_files.proofs.verifying.test_ranges.Given as goal

abbrev pub invariant-loop-input : goal.invariant-loop-input
invariant-loop-input g l = AllByRecursion (StandsInFile (g.S.Store.holds l.store)) (take l.input l.ranges)
