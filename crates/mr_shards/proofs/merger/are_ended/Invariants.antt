use Rattle.std.proofs.Common.{◌≡◌, drop}
use Rattle.mr_shards.specs.Cursors.{are_ended}
use Rattle.mr_shards.proofs.merger.are_ended.Given as goal

abbrev pub invariant-loop-at : goal.invariant-loop-at
invariant-loop-at l = are_ended (drop l.at l.cursors) ≡ are_ended l.cursors
