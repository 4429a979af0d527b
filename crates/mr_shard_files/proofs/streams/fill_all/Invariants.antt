use Rattle.std.proofs.Common.{[]}
use Rattle.mr_shard_files.specs.Streams.{Moves}
use Rattle.mr_shard_files.proofs.AllLemmas.{KeptTo}
use Rattle.mr_shard_files.proofs.streams.fill_all.Given as goal

abbrev pub invariant-loop-shard : goal.invariant-loop-shard
invariant-loop-shard g l = KeptTo (λ _ o n. Moves g.R.CountedRead.remaining g.R.CountedRead.can_fail [] o n) l.shard l.initial.parts l.initial.parts l.parts
