use Rattle.std.proofs.Common.{◌-◌, ◌≤◌}
use Rattle.mr_index.specs.Windows.{number_of, Follow}
use Rattle.mr_index.proofs.window.push_split.Given as goal

abbrev pub invariant-loop-from : goal.invariant-loop-from
invariant-loop-from l = record {
  within : l.from ≤ l.records;
  follow : Follow l.plan 0 l.windows.items (number_of l.plan l.split l.from);
}

abbrev pub decreases-loop-from : goal.decreases-loop-from
decreases-loop-from l = l.records - l.from
