use Rattle.mr_jobs.proofs.CountLemmas.{emissions_fit, short_keys, keys_fit, counters_emit_ones, one_value_each}
use Rattle.mr_jobs.proofs.KeyLemmas.{keys_stand}
use Rattle.mr_jobs.proofs.emissions.emission_law.Goals as goal

pub returns-clause-few : goal.returns-clause-few
returns-clause-few c = emissions_fit

pub returns-clause-stand : goal.returns-clause-stand
returns-clause-stand c = keys_stand

pub returns-clause-short : goal.returns-clause-short
returns-clause-short c = short_keys

pub returns-clause-ones : goal.returns-clause-ones
returns-clause-ones c = counters_emit_ones

pub returns-clause-together : goal.returns-clause-together
returns-clause-together c = keys_fit

pub returns-clause-values : goal.returns-clause-values
returns-clause-values c = one_value_each
