use Rattle.std.proofs.Common.{◌≡◌, true}
use Rattle.std.specs.List.{list_all, range_with_len}
use Rattle.mr_pool.specs.Accounts.{is_worker_lost}
use Rattle.mr_pool.proofs.fault_plan.all_are_lost.Given as goal

abbrev pub invariant-loop-worker : goal.invariant-loop-worker
invariant-loop-worker l = list_all (is_worker_lost l.directives) (range_with_len 0 l.worker) ≡ true
