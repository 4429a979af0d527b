use Rattle.mr_merge.proofs.LawLemmas.{groups_have, groups_rise, merged-same, merged_has}
use Rattle.mr_merge.proofs.merged.merge_law.Goals as goal

pub returns-clause-rise : goal.returns-clause-rise
returns-clause-rise c = groups_rise

pub returns-clause-have : goal.returns-clause-have
returns-clause-have c = groups_have

pub returns-clause-all : goal.returns-clause-all
returns-clause-all c = merged_has

pub returns-clause-one : goal.returns-clause-one
returns-clause-one c = merged-same
