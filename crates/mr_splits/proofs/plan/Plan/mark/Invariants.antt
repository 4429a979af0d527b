use Rattle.std.proofs.Common.{◌≡◌, ◌<◌, ℕ, false, length, get_or, take}
use Rattle.mr_splits.specs.Named.{is_left_out}
use Rattle.mr_splits.specs.Cut.{records_of, nth_named}
use Rattle.mr_splits.proofs.plan.Plan.mark.Given as goal

abbrev pub invariant-loop-name : goal.invariant-loop-name
invariant-loop-name l =
    (i : ℕ) → i < length (records_of l.self) → get_or l.flags i false ≡ is_left_out (take l.name-index l.skips) (nth_named (records_of l.self) i).name
