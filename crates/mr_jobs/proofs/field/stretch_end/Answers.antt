use Rattle.std.proofs.Common.{sym}
use Rattle.mr_jobs.proofs.FieldLemmas.{end-found, end-absent}
use Rattle.mr_jobs.proofs.field.stretch_end.Goals as goal

pub returns-in-Some-clause-value : goal.returns-in-Some-clause-value
returns-in-Some-clause-value c = sym (end-found c.args.bytes.now c.in-Some.at c.in-Some.ensures)

pub returns-in-None-clause-value : goal.returns-in-None-clause-value
returns-in-None-clause-value c = sym (end-absent c.args.bytes.now c.in-None.ensures)
