use Rattle.std.proofs.Common.{◌<◌, ◌-◌, ℕ, get_or, length}
use Rattle.mr_check.specs.declared.walk.Walked.{Walked}
use Rattle.mr_check.specs.Claims.{IsRightWindow}
use Rattle.mr_check.specs.Joined.{joined}
use Rattle.mr_check.specs.Walk.{known}
use Rattle.mr_check.proofs.windows.test_window.Given as goal

abbrev pub invariant-loop-right : goal.invariant-loop-right
invariant-loop-right l =
    (i : ℕ) (d : Walked) → i < l.right → i < length l.walked → IsRightWindow (known l.given).triples (joined (known l.given).outputs) (get_or l.walked i d).claims l.w

abbrev pub decreases-loop-right : goal.decreases-loop-right
decreases-loop-right l = length l.walked - l.right
