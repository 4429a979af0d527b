use Rattle.mr_book.proofs.Done.{attempts_have_one_value, committed_have_a_value}
use Rattle.mr_book.proofs.book.attempts_law.Goals as goal

pub returns-clause-one : goal.returns-clause-one
returns-clause-one c = attempts_have_one_value

pub returns-clause-some : goal.returns-clause-some
returns-clause-some c = committed_have_a_value
