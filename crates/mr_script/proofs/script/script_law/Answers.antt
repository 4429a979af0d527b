use Rattle.mr_records.specs.Records.{records}
use Rattle.mr_script.proofs.Spelled.{one_list, no_bad_line}
use Rattle.mr_script.proofs.script.script_law.Goals as goal

pub returns-clause-one : goal.returns-clause-one
returns-clause-one c = λ bytes. one_list (records bytes)

pub returns-clause-bad : goal.returns-clause-bad
returns-clause-bad c = no_bad_line
