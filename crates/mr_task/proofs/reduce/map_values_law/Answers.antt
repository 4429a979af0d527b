use Rattle.mr_task.proofs.ValueLaws.{map_values_have, map_values_rise}
use Rattle.mr_task.proofs.reduce.map_values_law.Goals as goal

pub returns-clause-rise : goal.returns-clause-rise
returns-clause-rise c = map_values_rise

pub returns-clause-have : goal.returns-clause-have
returns-clause-have c = map_values_have
