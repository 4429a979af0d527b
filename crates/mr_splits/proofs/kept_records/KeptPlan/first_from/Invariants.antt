use Rattle.std.proofs.Common.{◌≡◌, ◌≤◌, length}
use Rattle.mr_splits.specs.Named.{of_split}
use Rattle.mr_splits.specs.Cut.{records_of}
use Rattle.mr_splits.specs.Kept.{kept_from}
use Rattle.mr_splits.proofs.KeptLemmas.{steps_left}
use Rattle.mr_splits.proofs.kept_records.KeptPlan.first_from.Given as goal

abbrev pub invariant-loop-split : goal.invariant-loop-split
invariant-loop-split l = record {
  order : l.split ≤ l.end;
  here : l.rec ≤ length (of_split l.split (records_of l.self.cut));
  same : kept_from l.self l.split l.rec l.end ≡ kept_from l.fn.self l.fn.from.split l.fn.from.rec l.fn.end;
}

abbrev pub decreases-loop-split : goal.decreases-loop-split
decreases-loop-split l = steps_left (records_of l.self.cut) l.split l.rec l.end
