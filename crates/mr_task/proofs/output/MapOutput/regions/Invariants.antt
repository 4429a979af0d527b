use Rattle.std.proofs.Common.{◌≡◌, take}
use Rattle.mr_task.specs.Mapped.{regions_at}
use Rattle.mr_task.proofs.output.MapOutput.regions.Given as goal

abbrev pub invariant-loop-i : goal.invariant-loop-i
invariant-loop-i l = l.regions.items ≡ regions_at l.p (take l.i l.self.runs)
