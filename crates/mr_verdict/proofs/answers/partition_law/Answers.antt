use Rattle.mr_verdict.proofs.VerdictOutputs.{other_outputs_dont_matter, bytes_behind_dont_matter}
use Rattle.mr_verdict.proofs.answers.partition_law.Goals as goal

pub returns-clause-own : goal.returns-clause-own
returns-clause-own c = other_outputs_dont_matter

pub returns-clause-compared : goal.returns-clause-compared
returns-clause-compared c = bytes_behind_dont_matter
