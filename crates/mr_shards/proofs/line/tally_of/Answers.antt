use Rattle.std.proofs.Common.{◌∙◌, sym}
use Rattle.mr_jobs.specs.JobSpec.{group_text_of}
use Rattle.mr_shards.proofs.LineLemmas.{no-list}
use Rattle.mr_shards.proofs.line.tally_of.Goals as goal

pub returns-in_err-last_file : goal.returns-in_err-last_file
returns-in_err-last_file c =
    rw c.from_residual-in_err-last_file.ensures (no-list (group_text_of c.args.job.now) c.args.told.now (sym c.counts.ensures ∙ c.if-counts.false) (sym c.has_lines.ensures ∙ c.if-has_lines.false) c.in_err-last_file.ensures)
