use Rattle.mr_shard_files.specs.Pairs.{IsAdded}
use Rattle.mr_shard_files.proofs.AllLemmas.{KeptTo}
use Rattle.mr_shard_files.proofs.pairs.add_pairs.Given as goal

abbrev pub invariant-loop-shard : goal.invariant-loop-shard
invariant-loop-shard l = KeptTo IsAdded l.shard l.merger.held l.initial.totals l.totals
