use Rattle.std.proofs.Common.{◌≡◌, replicate, [], None, false}
use Rattle.mr_core.proofs.splits.Splits.new.Given as goal

abbrev pub invariant-loop-i : goal.invariant-loop-i
invariant-loop-i l = l.items.items ≡ replicate l._i (record { skips = []; fixed = false; output = None })
