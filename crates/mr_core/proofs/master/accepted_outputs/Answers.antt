use Rattle.mr_core.proofs.FetchLaws.{output_was_accepted, part_was_accepted}
use Rattle.mr_core.proofs.master.accepted_outputs.Goals as goal

pub returns-clause-splits : goal.returns-clause-splits
returns-clause-splits c = output_was_accepted

pub returns-clause-parts : goal.returns-clause-parts
returns-clause-parts c = part_was_accepted
