use Rattle.mr_pool.proofs.running.run_watched.Given as goal

abbrev pub ghosts-run_in : goal.ghosts-run_in
ghosts-run_in g a = record { name = a.blank.name; parts = a.blank.parts }
