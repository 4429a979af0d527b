use Rattle.std.proofs.Common.{◌≡◌, ℕ, Option, ◌<◌, length}
use Rattle.std.specs.Prelude.{IfSome, slice_index_or}
use Rattle.mr_check.specs.Windows.{IsTested}
use Rattle.mr_check.specs.declared.windows.Tested.{Tested}
use Rattle.mr_check.proofs.windows.test_one.Given as goal

abbrev pub invariant-loop-w : goal.invariant-loop-w
invariant-loop-w g l = record {
  count : length l.tested.items ≡ l.w;
  tested : (w : ℕ) (d : Option Tested) → w < length l.tested.items → IfSome (slice_index_or l.tested.items w d) (IsTested l.given l.all w);
}
