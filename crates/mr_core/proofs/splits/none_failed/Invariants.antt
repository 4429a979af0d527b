use Rattle.std.proofs.Common.{◌≡◌, replicate, []}
use Rattle.mr_core.proofs.splits.none_failed.Given as goal

abbrev pub invariant-loop-i : goal.invariant-loop-i
invariant-loop-i l = l.lists.items ≡ replicate l._i []
