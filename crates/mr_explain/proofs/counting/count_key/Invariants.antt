use Rattle.std.proofs.Common.{◌≡◌, ◌+◌, ◌≤◌, length}
use Rattle.mr_jobs.specs.Pairs.{pairs_of}
use Rattle.mr_explain.specs.Explained.{pairs_with}
use Rattle.mr_explain.proofs.counting.count_key.Given as goal

abbrev pub invariant-loop-found : goal.invariant-loop-found
invariant-loop-found l = record {
  few : l.count + length l.left ≤ length (pairs_of l.fn.pairs);
  counted : l.count + length (pairs_with l.key l.left) ≡ length (pairs_with l.key (pairs_of l.fn.pairs));
}

abbrev pub decreases-loop-found : goal.decreases-loop-found
decreases-loop-found l = length l.left
