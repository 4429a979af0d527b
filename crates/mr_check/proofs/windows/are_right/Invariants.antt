use Rattle.std.proofs.Common.{All, take}
use Rattle.mr_index.specs.declared.window.Window.{Window}
use Rattle.mr_check.specs.Windows.{IsMapped, IsRightIn}
use Rattle.mr_check.proofs.windows.are_right.Given as goal

abbrev pub invariant-loop-late : goal.invariant-loop-late
invariant-loop-late l = (window : Window) → IsMapped l.given window l.piece → All (IsRightIn l.given l.bits window) (take l.late-index l.list)
