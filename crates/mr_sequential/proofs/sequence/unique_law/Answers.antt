use Rattle.mr_sequential.proofs.UniqueLaws.{certificate_is_sequential, certificate_is_unique}
use Rattle.mr_sequential.proofs.sequence.unique_law.Goals as goal

pub returns-clause-sequential : goal.returns-clause-sequential
returns-clause-sequential c = certificate_is_sequential

pub returns-clause-one : goal.returns-clause-one
returns-clause-one c = certificate_is_unique
