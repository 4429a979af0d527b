use Rattle.std.proofs.Common.{◌-◌, ◌≤◌, length}
use Rattle.mr_rows_tests.proofs.kernels.show_each_word.Given as goal

abbrev pub invariant-loop-word : goal.invariant-loop-word
invariant-loop-word l = l.from ≤ length l.bytes

abbrev pub decreases-loop-word : goal.decreases-loop-word
decreases-loop-word l = length l.bytes - l.from
