use Rattle.std.proofs.Common.{◌≡◌, ℕ, ◌<◌, ◌≤◌, false}
use Rattle.mr_core.specs.declared.event.Task.TheVariants.{Reduce as ReduceTask}
use Rattle.mr_core.specs.Index.{is_idle}
use Rattle.mr_core.proofs.tables.MasterState.idle_part_from.Given as goal

abbrev pub invariant-loop-partition : goal.invariant-loop-partition
invariant-loop-partition l = (k : ℕ) → l.from ≤ k → k < l.partition → is_idle l.self (ReduceTask k) ≡ false
