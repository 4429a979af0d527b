use Rattle.std.proofs.Common.{◌≡◌, ◌++◌, take}
use Rattle.mr_shards.proofs.joining.add_ranges.Given as goal

abbrev pub invariant-loop-range : goal.invariant-loop-range
invariant-loop-range l = l.all.items ≡ l.fn.all.items ++ take l.range-index l.more
