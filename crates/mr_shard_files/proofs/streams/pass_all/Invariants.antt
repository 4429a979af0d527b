use Rattle.std.proofs.Common.{take}
use Rattle.mr_shard_files.specs.Streams.{Moves}
use Rattle.mr_shard_files.proofs.AllLemmas.{KeptTo}
use Rattle.mr_shard_files.proofs.streams.pass_all.Given as goal

abbrev pub invariant-loop-shard : goal.invariant-loop-shard
invariant-loop-shard g l = KeptTo (λ c o n. Moves g.R.CountedRead.remaining g.R.CountedRead.can_fail (take c o.held) o n) l.shard l.cuts l.initial.parts l.parts
