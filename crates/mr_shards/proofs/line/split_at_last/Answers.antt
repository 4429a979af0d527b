use Rattle.std.proofs.Common.{sym, subst}
use Rattle.mr_jobs.specs.JobSpec.{group_text_of}
use Rattle.mr_shards.specs.Views.{IsParsed}
use Rattle.mr_shards.proofs.LineLemmas.{there, told-once}
use Rattle.mr_shards.proofs.line.split_at_last.Goals as goal

pub returns-in_err-key : goal.returns-in_err-key
returns-in_err-key c = rw c.from_residual.ensures (λ key t is. there 9 c.args.line.now key is.0 is.1 c.in_err-key.ensures)

pub returns-in_err-tally_of : goal.returns-in_err-tally_of
returns-in_err-tally_of c = rw c.from_residual-in_err-tally_of.ensures (λ key t is.
    let cut = c.in_ok-key.ensures in
    c.in_err-tally_of.ensures t (subst (IsParsed c.args.job.now t)
    (sym (told-once (group_text_of c.args.job.now) t c.args.line.now key is.0 c.in_ok-key.key.now c.in_ok-key.told.now cut.0 cut.1 is.1 is.2)) is.2))
