use Rattle.std.proofs.Common.{◌≡◌, ◌<◌, ◌^◌, ◌∙◌, ◌⊎◌, true, Some, inl, inr, refl, rules, sym}
use Rattle.mr_jobs.specs.JobSpec.{counts, has_lines}
use Rattle.mr_shard_files.proofs.PairLemmas.{other_total}
use Rattle.mr_shard_files.proofs.pairs.test_total.Goals.{then-counts, else-counts}
use Rattle.mr_shard_files.proofs.pairs.test_total.Goals as goal

pub returns-then-ne-clause-err : goal.returns-then-ne-clause-err
returns-then-ne-clause-err c =
    let small : c.args.pairs < 2 ^ 64 = search rules in
    let other : c.args.total ≡ Some c.args.pairs → ⊥ = search rules in
    let stated : (counts c.args.job.now ≡ true) ⊎ (has_lines c.args.job.now ≡ true) =
    elim c.if-counts.branch [ then-counts w ↦ inl (sym c.counts.ensures ∙ w.if-counts.true) | else-counts w ↦ inr (sym w.has_lines.ensures ∙ sym w.value-is ∙ c.if-has_lines.true) ] in
    (refl, λ texts t. other_total c.args.job.now texts c.args.total c.args.pairs stated small t other)
