use Rattle.std.proofs.Common.{◌≡◌, ◌≤◌, ◌<◌, ℕ, get_or, take, length}
use Rattle.std.specs.List.{flat_map}
use Rattle.mr_check.specs.Claims.{IsRightWindow}
use Rattle.mr_check.specs.Joined.{joined}
use Rattle.mr_check.specs.Walk.{known}
use Rattle.mr_check.specs.Windows.{pairs_in}
use Rattle.mr_check.specs.declared.walk.Walked.{Walked}
use Rattle.mr_check.proofs.windows.sum_windows.Given as goal

abbrev pub invariant-loop-w : goal.invariant-loop-w
invariant-loop-w l = record {
  sum : l.sum ≡ length (flat_map (pairs_in l.given) (take l.w l.given.windows.now.list));
  few : l.right ≤ length l.walked;
  right : (k : ℕ) (d : Walked) → k < l.right → (i : ℕ) → i < l.w → IsRightWindow (known l.given).triples (joined (known l.given).outputs) (get_or l.walked k d).claims i;
}
