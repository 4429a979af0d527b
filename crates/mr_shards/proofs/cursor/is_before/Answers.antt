use Rattle.mr_shards.proofs.FrontLemmas.{same-not_less, told-by-front}
use Rattle.mr_shards.proofs.cursor.is_before.Goals as goal

pub returns-then-line-other : goal.returns-then-line-other
returns-then-line-other c = told-by-front c.args.line c.args.other c.requires.line c.requires.other c.if-line-other.true

pub returns-then-have_one_key : goal.returns-then-have_one_key
returns-then-have_one_key c = same-not_less c.args.line.key.now c.args.other.key.now (c.have_one_key.ensures.0 c.if-have_one_key.true)
