use Rattle.mr_shards.proofs.FileNumberLemmas.{numbers_move}
use Rattle.mr_shards.proofs.ReadingLemmas.{numbers_read}
use Rattle.mr_shards.proofs.file_numbers.index_law.Goals as goal

pub returns-clause-moved : goal.returns-clause-moved
returns-clause-moved c = numbers_move

pub returns-clause-read : goal.returns-clause-read
returns-clause-read c = numbers_read
