use Rattle.std.proofs.Common.{ap, ◌∙◌}
use Rattle.mr_core.specs.declared.attempts.Count.{Count}
use Rattle.mr_core.specs.Index.{ended}
use Rattle.mr_core.proofs.Indexed.{change_counted}
use Rattle.mr_core.proofs.attempts.Counts.end.Goals as goal

pub returns : goal.returns
returns c = c.set.ensures ∙ change_counted ended c.args.task c.args.self.now _ (ap (λ (k : Count). ended k) c.of-count.ensures)
