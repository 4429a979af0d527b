use Rattle.std.proofs.Common.{◌≤◌, ◌-◌}
use Rattle.mr_check.proofs.given.shift_for.Given as goal

abbrev pub invariant-loop-shift : goal.invariant-loop-shift
invariant-loop-shift l = l.shift ≤ 20

abbrev pub decreases-loop-shift : goal.decreases-loop-shift
decreases-loop-shift l = 20 - l.shift
