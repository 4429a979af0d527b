use Rattle.std.proofs.Common.{◌≡◌, ◌++◌, map, take, drop}
use Rattle.mr_core.specs.Master.{gone_with}
use Rattle.mr_core.proofs.splits.leave_outputs.Given as goal

abbrev pub invariant-loop-i : goal.invariant-loop-i
invariant-loop-i l = l.splits ≡ map (gone_with l.worker) (take l.i l.fn.splits) ++ drop l.i l.fn.splits
