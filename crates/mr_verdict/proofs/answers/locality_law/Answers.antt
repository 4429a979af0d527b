use Rattle.mr_verdict.proofs.VerdictLater.{later_outputs_dont_matter}
use Rattle.mr_verdict.proofs.VerdictLocal.{later_items_dont_matter}
use Rattle.mr_verdict.proofs.VerdictOutputs.{only_compared_matters}
use Rattle.mr_verdict.proofs.answers.locality_law.Goals as goal

pub returns-clause-items : goal.returns-clause-items
returns-clause-items c = later_items_dont_matter

pub returns-clause-outputs : goal.returns-clause-outputs
returns-clause-outputs c = later_outputs_dont_matter

pub returns-clause-compared : goal.returns-clause-compared
returns-clause-compared c = only_compared_matters
