use Rattle.std.proofs.Common.{ap, ◌∙◌, length}
use Rattle.std.proofs.lemmas.Result.{err_from_is_err_and}
use Rattle.mr_jobs.specs.JobSpec.{JobSpec}
use Rattle.mr_shards.specs.declared.merger.MergeFault.{MergeFault}
use Rattle.mr_shards.specs.Portions.{no_shift}
use Rattle.mr_shards.specs.Refused.{Blames}
use Rattle.std.proofs.Common.{List}
use Rattle.mr_shards.specs.Rounds.{AreFresh, Reading, outputs_of}
use Rattle.mr_shards.proofs.FreshLemmas.{fresh-after, held-count, too-far}
use Rattle.mr_shards.proofs.RefusedLemmas.{handed}
use Rattle.mr_shards.proofs.merger.Merger.new.Goals as goal

pub returns-in_err-held_of-clause-err : goal.returns-in_err-held_of-clause-err
returns-in_err-held_of-clause-err c =
    handed (λ (e : MergeFault). (job : JobSpec) (rs : List Reading) → AreFresh c.args.files.now rs → Blames job (outputs_of rs) e) c.from_residual.result c.in_err-held_of.field-0.0
    (err_from_is_err_and c.from_residual.result c.from_residual.ensures.1)
    (λ job rs a. too-far job c.args.files.now rs c.in_err-held_of.field-0.0 a c.in_err-held_of.ensures.err)

pub returns-clause-shards : goal.returns-clause-shards
returns-clause-shards c = ap length c.in_ok-held_of.ensures.ok ∙ held-count no_shift c.args.files.now

pub returns-clause-fresh : goal.returns-clause-fresh
returns-clause-fresh c = λ job rs a. fresh-after job c.args.files.now rs _ a c.in_ok-held_of.ensures.ok c.new.ensures
