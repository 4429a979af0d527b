use Rattle.mr_records.proofs.LawLemmas.{no_line_feeds, give_the_file_back, start_in_turn, start_where_lines_begin, few_records}
use Rattle.mr_records.proofs.record_law.Goals as goal

pub returns-clause-clear : goal.returns-clause-clear
returns-clause-clear c = no_line_feeds

pub returns-clause-joined : goal.returns-clause-joined
returns-clause-joined c = give_the_file_back

pub returns-clause-turn : goal.returns-clause-turn
returns-clause-turn c = start_in_turn

pub returns-clause-lines : goal.returns-clause-lines
returns-clause-lines c = start_where_lines_begin

pub returns-clause-few : goal.returns-clause-few
returns-clause-few c = few_records
