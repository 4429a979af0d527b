use Rattle.std.proofs.Common.{take}
use Rattle.mr_bytes.specs.Lists.{Rises}
use Rattle.mr_bytes.specs.Pairs.{pair_order}
use Rattle.mr_merge.proofs.merged.pairs_rise.Given as goal

abbrev pub invariant-loop-i : goal.invariant-loop-i
invariant-loop-i l = Rises pair_order (take l.i l.pairs)
