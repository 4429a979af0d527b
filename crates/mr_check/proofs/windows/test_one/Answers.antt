use Rattle.std.proofs.Common.{arith}
use Rattle.mr_check.proofs.SectionLemmas.{some_at}
use Rattle.mr_check.proofs.windows.test_one.Goals as goal

pub returns-clause-right : goal.returns-clause-right
returns-clause-right g c = c.in_ok-found.ensures.right 0 c.args.walked (some_at c.in_ok-found.found.right c.if-found-eq0.false) (omega arith)
