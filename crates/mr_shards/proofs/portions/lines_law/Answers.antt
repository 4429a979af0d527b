use Rattle.mr_shards.proofs.LineLaws.{lines_are_whole}
use Rattle.mr_shards.proofs.portions.lines_law.Goals as goal

pub returns : goal.returns
returns c = lines_are_whole
