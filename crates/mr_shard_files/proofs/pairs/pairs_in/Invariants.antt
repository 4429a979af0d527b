use Rattle.std.proofs.Common.{◌≡◌, ℕ, ◌++◌, List, length}
use Rattle.mr_shards.specs.Lines.{lines}
use Rattle.mr_shard_files.specs.Pairs.{IsTotal}
use Rattle.mr_shard_files.proofs.pairs.pairs_in.Given as goal

abbrev pub invariant-loop-line : goal.invariant-loop-line
invariant-loop-line l = record {
  done : List (List ℕ);
  is : lines l.text ≡ done ++ lines l.rest;
  total : IsTotal l.job done l.total;
}

abbrev pub decreases-loop-line : goal.decreases-loop-line
decreases-loop-line l = length l.rest
