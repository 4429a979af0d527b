use Rattle.std.proofs.Common.{◌≡◌, ℕ, ◌<◌, true, Some, slice_get, subst}
use Rattle.mr_core.specs.Master.{Attempt}
use Rattle.mr_core.specs.Index.{Issued}
use Rattle.mr_core.proofs.Indexed.{all_below}
use Rattle.mr_core.proofs.attempts.Attempts.workers.Goals as goal

pub returns-clause-all : goal.returns-clause-all
returns-clause-all c = subst (λ (v : Issued). (a : ℕ) (x : Attempt) → slice_get v.items a ≡ Some x → x.live ≡ true → x.worker < v.workers) c.self.view_is (all_below c.self.inside.items.items c.self.inside.counts c.self.inside.current.items c.self.invariant)
