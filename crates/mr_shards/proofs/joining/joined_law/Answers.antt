use Rattle.mr_shards.proofs.JoinedLaws.{joined_is_true}
use Rattle.mr_shards.proofs.joining.joined_law.Goals as goal

pub returns : goal.returns
returns c = joined_is_true
