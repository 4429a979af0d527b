use Rattle.mr_sequential.proofs.GoodLaws.{good_parts_are_sequential, good_is_sequential}
use Rattle.mr_sequential.proofs.sequence.good_law.Goals as goal

pub returns-clause-parts : goal.returns-clause-parts
returns-clause-parts c = good_parts_are_sequential

pub returns-clause-whole : goal.returns-clause-whole
returns-clause-whole c = good_is_sequential
