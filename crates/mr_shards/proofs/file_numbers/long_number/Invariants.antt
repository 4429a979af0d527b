use Rattle.std.proofs.Common.{◌-◌, length}
use Rattle.mr_shards.specs.Index.{BeginsList}
use Rattle.mr_shards.proofs.NumberLemmas.{IsReadOn}
use Rattle.mr_shards.proofs.file_numbers.long_number.Given as goal

abbrev pub invariant-loop-at : goal.invariant-loop-at
invariant-loop-at l = (b : BeginsList l.list) × IsReadOn b.number l.at l.number

abbrev pub decreases-loop-at : goal.decreases-loop-at
decreases-loop-at l = length l.list - l.at
