use Rattle.std.proofs.Common.{◌≡◌, ℕ, ◌<◌, ◌≤◌, false}
use Rattle.mr_core.specs.declared.event.Task.TheVariants.{Map as MapTask}
use Rattle.mr_core.specs.Index.{is_idle}
use Rattle.mr_core.proofs.tables.MasterState.idle_map_from.Given as goal

abbrev pub invariant-loop-split : goal.invariant-loop-split
invariant-loop-split l = (k : ℕ) → l.from ≤ k → k < l.split → is_idle l.self (MapTask k) ≡ false
