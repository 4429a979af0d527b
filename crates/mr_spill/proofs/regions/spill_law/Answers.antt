use Rattle.mr_spill.proofs.RegionLaws.{regions_have, regions_rise}
use Rattle.mr_spill.proofs.regions.spill_law.Goals as goal

pub returns-clause-rise : goal.returns-clause-rise
returns-clause-rise c = regions_rise

pub returns-clause-have : goal.returns-clause-have
returns-clause-have c = regions_have
