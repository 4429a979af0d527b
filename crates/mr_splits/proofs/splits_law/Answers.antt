use Rattle.mr_splits.proofs.BelongLemmas.{records-belong, records-by-file}
use Rattle.mr_splits.proofs.JoinedLemmas.{splits-join, named-are-records}
use Rattle.mr_splits.proofs.NumberLemmas.{numbers-count}
use Rattle.mr_splits.proofs.RisingLemmas.{names-rise}
use Rattle.mr_splits.proofs.splits_law.Goals as goal

pub returns-clause-joined : goal.returns-clause-joined
returns-clause-joined c = splits-join

pub returns-clause-records : goal.returns-clause-records
returns-clause-records c = named-are-records

pub returns-clause-belong : goal.returns-clause-belong
returns-clause-belong c = records-belong

pub returns-clause-numbers : goal.returns-clause-numbers
returns-clause-numbers c = numbers-count

pub returns-clause-rise : goal.returns-clause-rise
returns-clause-rise c = names-rise

pub returns-clause-files : goal.returns-clause-files
returns-clause-files c = records-by-file
