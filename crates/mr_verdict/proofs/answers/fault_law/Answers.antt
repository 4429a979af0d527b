use Rattle.mr_verdict.proofs.FaultRead.{read_is_spelled, ended_is_spelled}
use Rattle.mr_verdict.proofs.FaultTruth.{faults_are_true, tells_of_bytes}
use Rattle.mr_verdict.proofs.answers.fault_law.Goals as goal

pub returns-clause-faults : goal.returns-clause-faults
returns-clause-faults c = faults_are_true

pub returns-clause-read : goal.returns-clause-read
returns-clause-read c = read_is_spelled

pub returns-clause-ended : goal.returns-clause-ended
returns-clause-ended c = ended_is_spelled

pub returns-clause-bytes : goal.returns-clause-bytes
returns-clause-bytes c = tells_of_bytes
