use Rattle.std.proofs.Common.{◌≡◌, ◌-◌, length}
use Rattle.mr_index.specs.Pairs.{filled}
use Rattle.mr_index.proofs.pairs.fill.Given as goal

abbrev pub invariant-loop-ends : goal.invariant-loop-ends
invariant-loop-ends l = filled l.count l.end l.ends.items ≡ filled l.count l.end l.fn.ends.items

abbrev pub decreases-loop-ends : goal.decreases-loop-ends
decreases-loop-ends l = l.count - length l.ends.items
