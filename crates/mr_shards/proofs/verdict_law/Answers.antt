use Rattle.mr_shards.proofs.OneLaws.{one_text}
use Rattle.mr_shards.proofs.verdict_law.Goals as goal

pub returns : goal.returns
returns c = one_text
