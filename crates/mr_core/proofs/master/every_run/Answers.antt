use Rattle.mr_core.proofs.Promised.{one_set, skips_few, attempts_few}
use Rattle.mr_core.proofs.master.every_run.Goals as goal

pub returns-clause-one_set : goal.returns-clause-one_set
returns-clause-one_set c = one_set

pub returns-clause-skips : goal.returns-clause-skips
returns-clause-skips c = skips_few

pub returns-clause-attempts : goal.returns-clause-attempts
returns-clause-attempts c = attempts_few
