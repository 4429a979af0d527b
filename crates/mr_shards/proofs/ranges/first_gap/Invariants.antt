use Rattle.std.proofs.Common.{ℕ, ◌<◌}
use Rattle.mr_shards.specs.Gaps.{Stands}
use Rattle.mr_shards.proofs.ranges.first_gap.Given as goal

abbrev pub invariant-loop-at : goal.invariant-loop-at
invariant-loop-at l = (k : ℕ) → k < l.at → Stands l.partial l.ranges k
