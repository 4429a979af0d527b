use Rattle.std.proofs.Common.{◌≡◌, ◌++◌, take}
use Rattle.mr_merge.proofs.merged.put_column.Given as goal

abbrev pub invariant-loop-i : goal.invariant-loop-i
invariant-loop-i l = l.all ≡ l.fn.all ++ take l.i l.column
