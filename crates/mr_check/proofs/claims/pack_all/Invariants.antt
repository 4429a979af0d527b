use Rattle.std.proofs.Common.{◌≡◌}
use Rattle.mr_check.proofs.claims.pack_all.Given as goal

abbrev pub invariant-loop-list : goal.invariant-loop-list
invariant-loop-list l = l.lists ≡ l.fn.lists
