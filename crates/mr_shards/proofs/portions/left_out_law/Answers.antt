use Rattle.mr_shards.proofs.SpotLaws.{names_back, names_stand, spots_back}
use Rattle.mr_shards.proofs.portions.left_out_law.Goals as goal

pub returns-clause-names : goal.returns-clause-names
returns-clause-names c = names_back

pub returns-clause-spots : goal.returns-clause-spots
returns-clause-spots c = spots_back

pub returns-clause-stand : goal.returns-clause-stand
returns-clause-stand c = names_stand
