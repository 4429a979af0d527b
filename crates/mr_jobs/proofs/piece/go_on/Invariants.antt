use Rattle.std.proofs.Common.{length, ◌-◌, ◌≤◌, ◌<◌}
use Rattle.mr_jobs.specs.Pieces.{start_at}
use Rattle.mr_jobs.proofs.piece.go_on.Given as goal

abbrev pub invariant-loop-k : goal.invariant-loop-k
invariant-loop-k l = record {
  within : l.k ≤ length l.words;
  order : l.from ≤ l.k;
  before : 0 < l.k → start_at l.words (l.k - 1) < l.at;
}

abbrev pub decreases-loop-k : goal.decreases-loop-k
decreases-loop-k l = length l.words - l.k
