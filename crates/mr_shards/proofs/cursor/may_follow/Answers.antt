use Rattle.mr_shards.proofs.FrontLemmas.{not_falls-behind, follows-behind}
use Rattle.mr_shards.proofs.cursor.may_follow.Goals as goal

pub returns-then-line-last-clause-order : goal.returns-then-line-last-clause-order
returns-then-line-last-clause-order c = not_falls-behind c.args.line c.in-Some.last c.args.last c.in-Some.is c.requires.line c.requires.last

pub returns-then-line-last-clause-turn : goal.returns-then-line-last-clause-turn
returns-then-line-last-clause-turn c = follows-behind c.args.job.now c.args.line c.in-Some.last c.args.last c.in-Some.is c.requires.line c.requires.last c.if-line-last.true
