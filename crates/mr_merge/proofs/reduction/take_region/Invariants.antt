use Rattle.mr_merge.proofs.TakingLemmas.{IsNamed}
use Rattle.mr_merge.proofs.reduction.take_region.Given as goal

abbrev pub invariant-loop-pair : goal.invariant-loop-pair
invariant-loop-pair l = IsNamed l.partition l.region l.in_turn l.fn.all l.all l.cursor l.names.numbers.items

abbrev pub decreases-loop-pair : goal.decreases-loop-pair
decreases-loop-pair l = l.cursor.left
