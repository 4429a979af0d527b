use Rattle.mr_shard_files.specs.Streams.{IsDigested}
use Rattle.mr_shard_files.proofs.AllLemmas.{KeptTo}
use Rattle.mr_shard_files.proofs.tails.keep_all.Given as goal

abbrev pub invariant-loop-shard : goal.invariant-loop-shard
invariant-loop-shard g l = KeptTo (λ _ o n. IsDigested o n) l.shard l.hashers l.initial.parts l.parts
