use Rattle.std.proofs.Common.{◌≡◌, ◌∙◌, inl, inr, length, rules, subst, true}
use Rattle.std.proofs.lemmas.Result.{err_from_is_err_and}
use Rattle.std.specs.List.{AllByRecursion}
use Rattle.mr_jobs.specs.JobSpec.{JobSpec}
use Rattle.mr_shards.specs.Truth.{Asks}
use Rattle.mr_shards.specs.Verdict.{Told}
use Rattle.mr_shard_files.specs.Pairs.{Fits, FitsNot, IsTotalOf, TotalFits}
use Rattle.mr_shard_files.specs.Verified.{AreNoted, IsFirstOther, IsFirstRange, StandsInFile}
use Rattle.mr_shard_files.proofs.verifying.verify_result.Goals.{then-plan+in_ok-test_ranges, else-plan}
use Rattle.mr_shard_files.proofs.verifying.verify_result.Goals as goal

pub returns-in_err-total-clause-refused : goal.returns-in_err-total-clause-refused
returns-in_err-total-clause-refused g c =
    let p = err_from_is_err_and c.from_residual-in_err-total.result c.from_residual-in_err-total.ensures.1 in
    let holds = g.S.Store.holds c.args.store.now in
    let unreadable = g.S.Store.unreadable c.args.store.now in
    let v = c.in_ok-verdict.verdict in
    let e = c.in_err-total.field-0.0 in
    let named = c.as_str.ensures.value ∙ c.in_ok-beside.ensures in
    rw p.1 (rw p.2 (inr (inr (v, c.in_ok-verdict.ensures.ok, (inr (inl (subst (λ b. IsFirstOther holds unreadable b v e) named c.in_err-total.ensures.err)))))))

pub returns-in_err-test_total-clause-refused : goal.returns-in_err-test_total-clause-refused
returns-in_err-test_total-clause-refused g c =
    let p = err_from_is_err_and c.from_residual-in_err-test_total.result c.from_residual-in_err-test_total.ensures.1 in
    let holds = g.S.Store.holds c.args.store.now in
    let v = c.in_ok-verdict.verdict in
    let named = c.as_str.ensures.value ∙ c.in_ok-beside.ensures in
    let asks : Asks v c.in-Some.request = search rules in
    let outputs : length v.outputs ≡ c.in-Some.request.parts = search rules in
    let counted = c.in_ok-total.ensures.ok in
    let other = subst (λ (w : Told). FitsNot c.job-job.result.now c.in_ok-total.total w.pairs) c.verdict.view_is c.in_err-test_total.ensures.err.1 in
    let unlike = subst (λ (j : JobSpec). IsTotalOf j counted.0 c.in_ok-total.total → TotalFits j counted.0 v.pairs → ⊥) c.job-job.ensures.same (other counted.0) in
    let total = subst (λ (j : JobSpec). IsTotalOf j counted.0 c.in_ok-total.total) c.job-job.ensures.same counted.3 in
    rw p.1 (rw p.2 (inr (inr (
      v,
      c.in_ok-verdict.ensures.ok,
      (inr (inr (inl (
        c.in_err-test_total.ensures.err.0,
        record {
          request = c.in-Some.request;
          asks = asks;
          texts = counted.0;
          count = counted.1 ∙ outputs;
          parts = subst (λ b. AreNoted holds b v 0 counted.0) named counted.2;
          other = unlike total;
        },
      )))),
    ))))

pub returns-in_err-test_ranges-clause-refused : goal.returns-in_err-test_ranges-clause-refused
returns-in_err-test_ranges-clause-refused g c =
    let p = err_from_is_err_and c.from_residual-in_err-test_ranges.result c.from_residual-in_err-test_ranges.ensures.1 in
    let holds = g.S.Store.holds c.args.store.now in
    let unreadable = g.S.Store.unreadable c.args.store.now in
    let v = c.in_ok-verdict.verdict in
    let e = c.in_err-test_ranges.field-0.0 in
    let ranges = subst (λ (w : Told). c.as_slice.result.now ≡ w.inputs) c.verdict.view_is c.as_slice.ensures.value in
    rw p.1 (rw p.2 (inr (inr (v, c.in_ok-verdict.ensures.ok, (inr (inr (inr (c.if-plan.true, subst (λ rs. IsFirstRange holds unreadable rs e) ranges c.in_err-test_ranges.ensures.err))))))))

pub returns-clause-ok : goal.returns-clause-ok
returns-clause-ok g c =
    let holds = g.S.Store.holds c.args.store.now in
    let v = c.in_ok-verdict.verdict in
    let named = c.as_str.ensures.value ∙ c.in_ok-beside.ensures in
    let asks : Asks v c.in-Some.request = search rules in
    let outputs : length v.outputs ≡ c.in-Some.request.parts = search rules in
    let counted = c.in_ok-total.ensures.ok in
    let fits = subst (λ (w : Told). Fits c.job-job.result.now c.in_ok-total.total w.pairs) c.verdict.view_is c.in_ok-test_total.ensures.ok in
    let alike = subst (λ (j : JobSpec). IsTotalOf j counted.0 c.in_ok-total.total → TotalFits j counted.0 v.pairs) c.job-job.ensures.same (fits counted.0) in
    let total = subst (λ (j : JobSpec). IsTotalOf j counted.0 c.in_ok-total.total) c.job-job.ensures.same counted.3 in
    let ranges : c.args.plan.now.inputs ≡ true → AllByRecursion (StandsInFile holds) v.inputs =
    elim c.if-plan.branch [
      | then-plan+in_ok-test_ranges w ↦ λ _. subst (λ (x : Told). AllByRecursion (StandsInFile holds) x.inputs) c.verdict.view_is (subst (AllByRecursion (StandsInFile holds)) w.as_slice.ensures.value w.in_ok-test_ranges.ensures.ok)
      | else-plan w ↦ λ h. search rules
    ] in (
      c.in_ok-verdict.ensures.ok,
      record {
        request = c.in-Some.request;
        asks = asks;
        outputs = outputs;
        texts = counted.0;
        count = counted.1 ∙ outputs;
        parts = subst (λ b. AreNoted holds b v 0 counted.0) named counted.2;
        total = alike total;
        ranges = ranges;
      },
    )
