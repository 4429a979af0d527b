use Rattle.std.proofs.Common.{◌≡◌, ℕ, ◌<◌, true, false, Some, slice_get}
use Rattle.mr_core.specs.Master.{Attempt}
use Rattle.mr_core.specs.Queries.{is_lone}
use Rattle.mr_core.proofs.tables.MasterState.find_lone.Given as goal

abbrev pub invariant-loop-worker : goal.invariant-loop-worker
invariant-loop-worker l = (a : ℕ) (x : Attempt) → x.worker < l.worker → slice_get l.self.attempts a ≡ Some x → x.live ≡ true → is_lone l.shape l.self x.task ≡ false
