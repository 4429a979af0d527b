use Rattle.std.proofs.Common.{◌-◌, ◌≤◌, length}
use Rattle.mr_shard_files.proofs.tails.middle_of.Given as goal

abbrev pub invariant-loop-low : goal.invariant-loop-low
invariant-loop-low g l = record {
  order : l.low ≤ l.high;
  within : l.high ≤ length l.parts;
}

abbrev pub decreases-loop-low : goal.decreases-loop-low
decreases-loop-low g l = l.high - l.low
