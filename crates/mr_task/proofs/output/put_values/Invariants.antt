use Rattle.std.proofs.Common.{◌≡◌, map, take}
use Rattle.mr_spill.specs.Groups.{nth_group}
use Rattle.mr_task.proofs.output.put_values.Given as goal

abbrev pub invariant-loop-i : goal.invariant-loop-i
invariant-loop-i l = l.values ≡ map (λ t. t.value) (take l.i (nth_group l.groups l.g).pairs)
