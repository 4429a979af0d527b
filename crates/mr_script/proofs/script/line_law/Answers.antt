use Rattle.mr_script.proofs.Meanings.{meant_is_spelled}
use Rattle.mr_script.proofs.Spelled.{spelled_is_meant, one_directive, nothing_spelled}
use Rattle.mr_script.proofs.script.line_law.Goals as goal

pub returns-clause-meaning : goal.returns-clause-meaning
returns-clause-meaning c = λ line d. (spelled_is_meant line d, meant_is_spelled line d)

pub returns-clause-one : goal.returns-clause-one
returns-clause-one c = one_directive

pub returns-clause-apart : goal.returns-clause-apart
returns-clause-apart c = nothing_spelled
