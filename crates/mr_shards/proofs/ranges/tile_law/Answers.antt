use Rattle.mr_shards.proofs.TileLemmas.{tiles_are_files}
use Rattle.mr_shards.proofs.ranges.tile_law.Goals as goal

pub returns : goal.returns
returns c = tiles_are_files
