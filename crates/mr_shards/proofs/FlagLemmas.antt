-- What flags tell.
use Rattle.std.proofs.Common.{◌≡◌, ◌+◌, cond, refl, ap, arith}
use Rattle.std.proofs.lemmas.Bool.{ne_eqb}
use Rattle.mr_bytes.specs.declared.By.{By}
use Rattle.mr_bytes.specs.declared.By.TheVariants.{Host, Key}
use Rattle.mr_jobs.specs.JobSpec.{ByFits, JobSpec, by_flag, job_flags}
use Rattle.mr_jobs.proofs.NameLemmas.{flags_below}
use Rattle.mr_shards.specs.Truth.{by_told}

-- the flags of a request tell those of its job, and what chooses its partitions
pub one_flag : (a b : JobSpec) (m n : By) → job_flags a + by_flag m ≡ job_flags b + by_flag n → (job_flags a ≡ job_flags b) × (m ≡ n)
one_flag a b Key Key same = (omega (arith, same), refl)
one_flag a b Key Host same = absurd (omega (arith, same, flags_below a))
one_flag a b Host Key same = absurd (omega (arith, same, flags_below b))
one_flag a b Host Host same = (omega (arith, same), refl)

-- what chooses the partitions of a job is told by the flags
pub by_of : (job : JobSpec) (by : By) → ByFits job by → by_told (job_flags job + by_flag by) ≡ by
by_of job Key fits = ap (λ b. cond b Host Key) (ne_eqb (job_flags job + 0) 4 (λ e. omega (arith, e, flags_below job)))
by_of job Host fits = ap (λ j. by_told (job_flags j + 4)) fits
