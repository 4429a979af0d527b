use Rattle.mr_shards.proofs.JudgedLaws.{good_is_judged, true-of-stretch}
use Rattle.mr_shards.proofs.judged_law.Goals as goal

pub returns-clause-shard : goal.returns-clause-shard
returns-clause-shard c = good_is_judged

pub returns-clause-stretch : goal.returns-clause-stretch
returns-clause-stretch c = true-of-stretch
