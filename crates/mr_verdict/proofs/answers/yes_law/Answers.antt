use Rattle.mr_verdict.proofs.VerdictYes.{yes_is_good, good_is_yes}
use Rattle.mr_verdict.proofs.answers.yes_law.Goals as goal

pub returns-clause-good : goal.returns-clause-good
returns-clause-good c = yes_is_good

pub returns-clause-yes : goal.returns-clause-yes
returns-clause-yes c = good_is_yes
