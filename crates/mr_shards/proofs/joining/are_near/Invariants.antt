use Rattle.std.proofs.Common.{take}
use Rattle.std.specs.List.{AllByRecursion}
use Rattle.mr_shards.specs.Joined.{IsNearRange}
use Rattle.mr_shards.proofs.joining.are_near.Given as goal

abbrev pub invariant-loop-range : goal.invariant-loop-range
invariant-loop-range l = AllByRecursion IsNearRange (take l.range-index l.ranges)
