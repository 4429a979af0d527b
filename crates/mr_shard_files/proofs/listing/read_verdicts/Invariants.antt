use Rattle.std.proofs.Common.{map, take}
use Rattle.mr_shard_files.specs.Merging.{AreHeard}
use Rattle.mr_shard_files.proofs.listing.read_verdicts.Given as goal

abbrev pub invariant-loop-shard : goal.invariant-loop-shard
invariant-loop-shard g l = AreHeard (g.S.Store.holds l.store) (map (λ s. s.now) (take l.shard l.names)) l.verdicts.items
