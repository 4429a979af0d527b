use Rattle.mr_shards.proofs.JoinLemmas.{IsJoinedTo}
use Rattle.mr_shards.proofs.joining.join_verdicts.Given as goal

abbrev pub invariant-loop-shard : goal.invariant-loop-shard
invariant-loop-shard l = IsJoinedTo l.request l.verdicts l.shard l.joined.verdict l.joined.past l.rest
