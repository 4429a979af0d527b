use Rattle.std.proofs.Common.{◌≤◌, length, drop}
use Rattle.mr_shards.proofs.PastLemmas.{IsPast}
use Rattle.mr_shards.proofs.shift.count_files.Given as goal

abbrev pub invariant-loop-at : goal.invariant-loop-at
invariant-loop-at l = record { past : IsPast (drop l.at l.ranges) l.files l.begin; within : l.at ≤ length l.ranges }

abbrev pub decreases-loop-at : goal.decreases-loop-at
decreases-loop-at l = l.at
