use Rattle.mr_index.specs.Windows.{number_of, Follow}
use Rattle.mr_index.proofs.window.windows.Given as goal

abbrev pub invariant-loop-split : goal.invariant-loop-split
invariant-loop-split l = Follow l.plan 0 l.windows.items (number_of l.plan l.split 0)
