use Rattle.std.proofs.Common.{◌≡◌, ◌++◌, drop}
use Rattle.mr_shards.specs.Rounds.{cuts_at}
use Rattle.mr_shards.proofs.merger.cuts_of.Given as goal

abbrev pub invariant-loop-at : goal.invariant-loop-at
invariant-loop-at l = l.cuts.items ++ cuts_at (drop l.at l.windows) (drop l.at l.cursors) ≡ cuts_at l.windows l.cursors
