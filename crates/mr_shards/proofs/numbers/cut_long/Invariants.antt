use Rattle.std.proofs.Common.{◌-◌, length}
use Rattle.mr_shards.proofs.NumberLemmas.{IsReadSoFar}
use Rattle.mr_shards.proofs.numbers.cut_long.Given as goal

abbrev pub invariant-loop-next : goal.invariant-loop-next
invariant-loop-next l = IsReadSoFar l.text l.at l.value

abbrev pub decreases-loop-next : goal.decreases-loop-next
decreases-loop-next l = length l.text - l.at
