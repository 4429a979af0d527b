use Rattle.mr_jobs.proofs.FieldLemmas.{fields_between, fields_stretches}
use Rattle.mr_jobs.proofs.field.field_law.Goals as goal

pub returns-clause-between : goal.returns-clause-between
returns-clause-between c = fields_between

pub returns-clause-stretches : goal.returns-clause-stretches
returns-clause-stretches c = fields_stretches
