use Rattle.std.proofs.Common.{◌≡◌, ℕ, List, ap, sym, ◌∙◌, subst, true≢false}
use Rattle.std.specs.Prelude.{Option, Some, MatchOption}
use Rattle.mr_bytes.specs.declared.By.TheVariants.{Host}
use Rattle.mr_jobs.specs.JobSpec.{ByFits, IsNamed, JobFits, JobSpec, RequestSpec, Resources, job_flags, job_literal, job_number}
use Rattle.mr_jobs.proofs.NameLemmas.{jobs_named}
use Rattle.mr_shards.specs.Truth.{Asks, by_told}
use Rattle.mr_shards.specs.Verdict.{Told}
use Rattle.mr_shards.proofs.FlagLemmas.{by_of}
use Rattle.mr_shards.proofs.verdict.request_of.Goals as goal

abbrev IsNone : ℕ → ℕ → List ℕ → Type 0
IsNone number flags literal = (job : JobSpec) → IsNamed number flags literal job → ⊥

-- a job that is named is that of each request that the verdict is about
job_is : (o : Option JobSpec) (job : JobSpec) (v : Told) (number flags : ℕ) (literal : List ℕ) → o ≡ Some job → MatchOption o (IsNone number flags literal) (λ j. IsNamed number flags literal j)
    → number ≡ v.job → literal ≡ v.literal → (r : RequestSpec) → flags ≡ job_flags r.job → JobFits r.job → v.job ≡ job_number r.job → v.literal ≡ job_literal r.job → job ≡ r.job
job_is o job v number flags literal is named n l r f fits same told =
    let own : IsNamed number flags literal job = subst (λ x. MatchOption x (IsNone number flags literal) (λ j. IsNamed number flags literal j)) is named in
    jobs_named job r.job own.fits fits (own.number_is ∙ (n ∙ same)) (own.flags_is ∙ f) (own.literal_is ∙ (l ∙ told))

pub returns-in_default-by_named : goal.returns-in_default-by_named
returns-in_default-by_named c = λ request fits asks.
    let v : Told = c.args.verdict.now in
    let flags = c.flags_of_job-flags.ensures request fits (ap (λ (t : Told). t.flags) c.verdict.view_is ∙ asks.1) in
    let same : c.in-Some.job ≡ request.job =
    job_is c.in_ok-job.field-0 c.in-Some.job v c.verdict.inside.job c.flags_of_job-flags.result c.as_slice.result.now c.in-Some.is c.in_ok-job.ensures
    (ap (λ (t : Told). t.job) c.verdict.view_is) (c.as_slice.ensures.value ∙ ap (λ (t : Told). t.literal) c.verdict.view_is) request flags fits.0 asks.0 asks.2 in
    let none = c.in_default-by_named.ensures in
    let host : request.by ≡ Host = sym (by_of request.job request.by fits.1) ∙ ap by_told (sym asks.1 ∙ none.0) in
    let url : request.job ≡ Resources = subst (ByFits request.job) host fits.1 in
    none.1 (ap (λ (r : RequestSpec). r.job) c.in-Ok.ensures.value ∙ same ∙ url)

pub returns-else-asks : goal.returns-else-asks
returns-else-asks c = λ request fits asks.
    let v : Told = c.args.verdict.now in
    let flags = c.flags_of_job-flags.ensures request fits (ap (λ (t : Told). t.flags) c.verdict.view_is ∙ asks.1) in
    let same : c.in-Some.job ≡ request.job =
    job_is c.in_ok-job.field-0 c.in-Some.job v c.verdict.inside.job c.flags_of_job-flags.result c.as_slice.result.now c.in-Some.is c.in_ok-job.ensures
    (ap (λ (t : Told). t.job) c.verdict.view_is) (c.as_slice.ensures.value ∙ ap (λ (t : Told). t.literal) c.verdict.view_is) request flags fits.0 asks.0 asks.2 in
    let value = c.in-Ok.ensures.value in
    let job : c.in-Ok.request.job ≡ request.job = ap (λ (r : RequestSpec). r.job) value ∙ same in
    let by : by_told c.args.verdict.now.flags ≡ request.by = ap by_told asks.1 ∙ by_of request.job request.by fits.1 in
    let parts : c.in-Ok.request.parts ≡ request.parts = ap (λ (r : RequestSpec). r.parts) value ∙ ap (λ (v : Told). v.parts) c.verdict.view_is ∙ asks.3 in
    let split : c.in-Ok.request.split ≡ request.split = ap (λ (r : RequestSpec). r.split) value ∙ ap (λ (v : Told). v.split) c.verdict.view_is ∙ asks.4 in
    let q : c.in-Some-by_named.request ≡ record { job = request.job; by = request.by; parts = request.parts; split = request.split; skips = c.in-Ok.request.skips } =
    c.in-Some-by_named.ensures ∙ (λ i. record { job = job i; by = by i; parts = parts i; split = split i; skips = c.in-Ok.request.skips }) in
    true≢false (sym (c.if-asks.ensures.1 (subst (Asks c.args.verdict.now) (sym q) asks)))
