use Rattle.mr_shards.proofs.RangeLaws.{joined_is_true, ranges_are_files}
use Rattle.mr_shards.proofs.ranges.ranges_law.Goals as goal

pub returns-clause-all : goal.returns-clause-all
returns-clause-all c = joined_is_true

pub returns-clause-one : goal.returns-clause-one
returns-clause-one c = ranges_are_files
