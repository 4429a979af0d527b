use Rattle.mr_sequential.proofs.EntryLaws.{entries_are_distinct, no_more_entries, none_is_left_out}
use Rattle.mr_sequential.proofs.sequence.entries_law.Goals as goal

pub returns-clause-distinct : goal.returns-clause-distinct
returns-clause-distinct c = entries_are_distinct

pub returns-clause-no_more : goal.returns-clause-no_more
returns-clause-no_more c = no_more_entries

pub returns-clause-all : goal.returns-clause-all
returns-clause-all c = none_is_left_out
