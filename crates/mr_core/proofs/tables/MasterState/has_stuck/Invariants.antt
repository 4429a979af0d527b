use Rattle.std.proofs.Common.{◌≡◌, false, map}
use Rattle.std.specs.List.{list_any, range_with_len}
use Rattle.mr_core.specs.declared.event.Task.TheVariants.{Map as MapTask, Reduce as ReduceTask}
use Rattle.mr_core.specs.Master.{is_stuck}
use Rattle.mr_core.proofs.tables.MasterState.has_stuck.Given as goal

abbrev pub invariant-loop-split : goal.invariant-loop-split
invariant-loop-split l = list_any (is_stuck l.shape l.self) (map MapTask (range_with_len 0 l.split)) ≡ false

abbrev pub invariant-loop-partition : goal.invariant-loop-partition
invariant-loop-partition l = list_any (is_stuck l.shape l.self) (map ReduceTask (range_with_len 0 l.partition)) ≡ false
