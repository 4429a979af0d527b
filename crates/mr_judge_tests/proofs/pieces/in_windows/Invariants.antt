use Rattle.std.proofs.Common.{◌≡◌, length}
use Rattle.mr_judge_tests.proofs.pieces.in_windows.Given as goal

abbrev pub invariant-loop : goal.invariant-loop
invariant-loop l = length l.merger.held ≡ 2
