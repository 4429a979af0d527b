use Rattle.std.proofs.Common.{◌≡◌, ◌++◌, take}
use Rattle.mr_spill.specs.Groups.{nth_group}
use Rattle.mr_spill.proofs.regions.put_group.Given as goal

abbrev pub invariant-loop-i : goal.invariant-loop-i
invariant-loop-i l = l.region ≡ l.fn.region ++ take l.i (nth_group l.groups l.g).pairs
