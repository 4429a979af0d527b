use Rattle.std.proofs.Common.{◌≡◌, None, drop}
use Rattle.mr_splits.specs.Cut.{records_of}
use Rattle.mr_splits.specs.Kept.{first_fault}
use Rattle.mr_splits.proofs.plan.Plan.first_fault.Given as goal

abbrev pub invariant-loop-name : goal.invariant-loop-name
invariant-loop-name l = first_fault (records_of l.self) l.before (drop l.name-index l.skips) ≡ first_fault (records_of l.self) None l.skips
