use Rattle.mr_task.proofs.SourceLemmas.{pieces_are_all, pieces_join}
use Rattle.mr_task.proofs.reduce.pieces_law.Goals as goal

pub returns-clause-join : goal.returns-clause-join
returns-clause-join c = pieces_join

pub returns-clause-all : goal.returns-clause-all
returns-clause-all c = pieces_are_all
