use Rattle.std.proofs.Common.{ℕ, ◌<◌, get_or}
use Rattle.mr_core.proofs.splits.place_of.Given as goal

abbrev pub invariant-loop-at : goal.invariant-loop-at
invariant-loop-at l = (k : ℕ) → k < l.at → get_or l.items k 0 < l.number
