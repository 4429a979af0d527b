use Rattle.mr_jobs.proofs.NameLemmas.{jobs_named}
use Rattle.mr_jobs.proofs.job.job_law.Goals as goal

pub returns : goal.returns
returns c = jobs_named
