use Rattle.mr_book.proofs.Done.{done_sets_are_fixed, done_is_sequential, done_is_certified, done_is_good, done_is_a_good_result}
use Rattle.mr_book.proofs.book.done_law.Goals as goal

pub returns-clause-fixed : goal.returns-clause-fixed
returns-clause-fixed c = done_sets_are_fixed

pub returns-clause-sequential : goal.returns-clause-sequential
returns-clause-sequential c = done_is_sequential

pub returns-clause-certified : goal.returns-clause-certified
returns-clause-certified c = done_is_certified

pub returns-clause-good : goal.returns-clause-good
returns-clause-good c = done_is_good

pub returns-clause-result : goal.returns-clause-result
returns-clause-result c = done_is_a_good_result
