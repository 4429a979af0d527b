use Rattle.mr_sequential.proofs.NameLaws.{names_rise}
use Rattle.mr_sequential.proofs.names_law.Goals as goal

pub returns : goal.returns
returns c = names_rise
