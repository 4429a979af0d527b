use Rattle.mr_reduce.proofs.FileLemmas.{are_told, files_rise}
use Rattle.mr_reduce.proofs.TextLemmas.{counters_tell_the_number}
use Rattle.mr_reduce.proofs.text_law.Goals as goal

pub returns-clause-number : goal.returns-clause-number
returns-clause-number c = counters_tell_the_number

pub returns-clause-rise : goal.returns-clause-rise
returns-clause-rise c = files_rise

pub returns-clause-told : goal.returns-clause-told
returns-clause-told c = are_told
