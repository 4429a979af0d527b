use Rattle.std.proofs.Common.{◌∙◌}
use Rattle.mr_task.proofs.LeftOutLemmas.{found-is}
use Rattle.mr_task.proofs.runs.has.Goals as goal

pub returns : goal.returns
returns c = c.is_ok.ensures.value ∙ found-is c.args.rising.now c.args.number c.binary_search.result c.binary_search.ensures.position c.requires
