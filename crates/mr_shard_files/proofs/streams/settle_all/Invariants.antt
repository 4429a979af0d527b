use Rattle.mr_shard_files.specs.Streams.{IsSettled}
use Rattle.mr_shard_files.proofs.AllLemmas.{KeptTo}
use Rattle.mr_shard_files.proofs.streams.settle_all.Given as goal

abbrev pub invariant-loop-shard : goal.invariant-loop-shard
invariant-loop-shard g l = KeptTo (IsSettled g.R.CountedRead.remaining g.R.CountedRead.can_fail l.partition) l.shard l.verdicts l.initial.parts l.parts
