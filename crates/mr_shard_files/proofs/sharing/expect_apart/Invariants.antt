use Rattle.std.proofs.Common.{map, take}
use Rattle.mr_shard_files.specs.Apart.{AreApart}
use Rattle.mr_shard_files.proofs.sharing.expect_apart.Given as goal

abbrev pub invariant-loop-shard : goal.invariant-loop-shard
invariant-loop-shard g l = AreApart (map (λ s. s.now) (take l.shard l.names)) l.out
