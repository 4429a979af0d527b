use Rattle.std.proofs.Common.{length, ◌-◌, ◌≤◌, ◌<◌}
use Rattle.mr_jobs.specs.Pieces.{start_at}
use Rattle.mr_jobs.proofs.piece.search.Given as goal

abbrev pub invariant-loop-low : goal.invariant-loop-low
invariant-loop-low l = record {
  order : l.low ≤ l.high;
  within : l.high ≤ length l.words;
  before : 0 < l.low → start_at l.words (l.low - 1) < l.at;
  behind : l.high < length l.words → l.at ≤ start_at l.words l.high;
}

abbrev pub decreases-loop-low : goal.decreases-loop-low
decreases-loop-low l = l.high - l.low
