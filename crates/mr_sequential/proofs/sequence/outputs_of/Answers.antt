use Rattle.std.proofs.Common.{◌≡◌, ℕ, ◌≤◌, ◌^◌, List, length, arith, ap, ◌∙◌, subst}
use Rattle.std.proofs.lemmas.List.{length-map}
use Rattle.mr_bytes.specs.Pairs.{Triple}
use Rattle.mr_input.specs.Files.{total_size}
use Rattle.mr_jobs.specs.JobSpec.{JobSpec}
use Rattle.mr_splits.specs.Cut.{Cut, records_of}
use Rattle.mr_splits.specs.Kept.{Choice}
use Rattle.mr_sequential.specs.Names.{AreEmitted, silent_of, triples_of}
use Rattle.mr_sequential.proofs.SourceLemmas.{few_pairs, triple-count}
use Rattle.mr_sequential.proofs.sequence.outputs_of.Goals as goal

-- files within the limits of an input emit few enough pairs
few : (job : JobSpec) (choice : Choice) (input : List (List ℕ)) (plan : Cut) (count : ℕ) → plan ≡ choice.cut → input ≡ plan.files → count ≡ length input
    → count ≤ 1024 → total_size input ≤ 2 ^ 30 → length (triples_of job choice) ≤ 2 ^ 31
few job choice input plan count cut files counted low small =
    let same : input ≡ choice.cut.files = files ∙ ap (λ (k : Cut). k.files) cut in
    omega (
      arith,
      few_pairs job choice.skips choice.cut.size choice.cut.files (omega (arith, ap length same, counted, low))
          (subst (λ (fs : List (List ℕ)). total_size fs ≤ 2 ^ 30) same small),
      triple-count job choice.skips (records_of choice.cut),
    )

pub gather-requires : goal.gather-requires
gather-requires g c =
    omega (
      arith,
      few c.job.result.now c.args.kept.now c.input.result.now c.plan.result.now c.files-files.result c.plan.ensures c.input.ensures
          c.files-files.ensures.count c.files-files.ensures.few c.files-files.ensures.small,
    )

pub outputs-requires-clause-few : goal.outputs-requires-clause-few
outputs-requires-clause-few g c =
    let job : JobSpec = c.job.result.now in
    omega (
      arith,
      ap length c.in_ok-emitted.ensures.emitted.keys_are,
      length-map (triples_of job c.args.kept.now) (λ (t : Triple). t.key),
      few job c.args.kept.now c.input.result.now c.plan.result.now c.files-files.result c.plan.ensures c.input.ensures
          c.files-files.ensures.count c.files-files.ensures.few c.files-files.ensures.small,
    )

pub outputs-requires-clause-emitted : goal.outputs-requires-clause-emitted
outputs-requires-clause-emitted g c =
    subst (λ (j : JobSpec). AreEmitted j c.args.kept.now c.in_ok-emitted.emitted.keys c.in_ok-emitted.emitted.names) c.job.ensures.same c.in_ok-emitted.ensures.emitted

pub returns-clause-silent : goal.returns-clause-silent
returns-clause-silent g c =
    c.in_ok-emitted.ensures.silent ∙ ap (λ (j : JobSpec). silent_of j c.args.kept.now) c.job.ensures.same
