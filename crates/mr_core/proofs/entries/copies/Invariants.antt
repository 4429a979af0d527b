use Rattle.std.proofs.Common.{◌≡◌, replicate}
use Rattle.mr_core.proofs.entries.copies.Given as goal

abbrev pub invariant-loop-i : goal.invariant-loop-i
invariant-loop-i g l = l.items.items ≡ replicate l._i l.value
