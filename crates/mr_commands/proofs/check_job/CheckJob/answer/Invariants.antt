use Rattle.mr_files.specs.Refusals.{IsUnreadAmong}
use Rattle.mr_commands.specs.Judgements.{files_judged}
use Rattle.mr_commands.proofs.check_job.CheckJob.answer.Given as goal

abbrev pub ghosts-judge_as_read : goal.ghosts-judge_as_read
ghosts-judge_as_read g a = record { cause = IsUnreadAmong (g.S.Store.unreadable a.store.now) (files_judged a.job.now) }
