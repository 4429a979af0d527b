use Rattle.mr_pool_tests.proofs.book.answer.Given as goal

abbrev pub ghosts-work : goal.ghosts-work
ghosts-work a = record { name = a.blank.name; parts = a.blank.parts }
