use Rattle.std.proofs.Common.{ap, sym, ◌∙◌, arith}
use Rattle.mr_jobs.specs.JobSpec.{JobSpec, counts, group_text_of}
use Rattle.mr_jobs.specs.Emissions.{value_at}
use Rattle.mr_splits.specs.Cut.{Cut, records_of}
use Rattle.mr_splits.specs.Named.{NamedRecord}
use Rattle.mr_sequential.specs.Names.{record_under}
use Rattle.mr_index.proofs.WindowLemmas.{value_told}
use Rattle.mr_jobs.proofs.CountLemmas.{one_value}
use Rattle.mr_check.proofs.given.Given.value_of.Goals as goal

pub returns-then-counts : goal.returns-then-counts
returns-then-counts c t is =
    let job : JobSpec = c.args.self.now.request.now.job in
    let cut : Cut = c.args.self.now.kept.now.cut in
    let told = value_told job cut c.args.self.now.kept.now.skips c.args.name t (omega (arith, c.size-size.ensures.within.0, ap (λ (w : Cut). w.size) c.plan-plan.ensures, c.size-size.ensures.same)) is in
    let r : NamedRecord = record_under (records_of cut) c.args.name in
    (told.0, told.1 ∙ one_value (group_text_of job) r.file r.start (ap counts (sym c.job-job.ensures.same) ∙ (sym c.counts.ensures ∙ c.if-counts.true)))

pub returns : goal.returns
returns c t is =
    let job : JobSpec = c.args.self.now.request.now.job in
    let cut : Cut = c.args.self.now.kept.now.cut in
    let told = value_told job cut c.args.self.now.kept.now.skips c.args.name t (omega (arith, c.size-size.ensures.within.0, ap (λ (w : Cut). w.size) c.plan-plan.ensures, c.size-size.ensures.same)) is in
    let same = ap (λ (w : Cut). record_under (records_of w) c.args.name) (sym c.plan-plan.ensures) ∙ c.locate-record.ensures.record in (
      told.0,
      told.1 ∙ (ap (λ (r : NamedRecord). value_at job r.file r.start) same
          ∙ (ap (λ (j : JobSpec). value_at j c.locate-record.result.file c.locate-record.result.start) (sym c.job-job.ensures.same) ∙ sym c.value_at.ensures)),
    )
