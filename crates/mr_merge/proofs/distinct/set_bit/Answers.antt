use Rattle.std.proofs.Common.{arith}
use Rattle.mr_merge.proofs.BitLemmas.{set-fresh, set-it, set-keeps}
use Rattle.mr_merge.proofs.distinct.set_bit.Goals as goal

pub returns-clause-set : goal.returns-clause-set
returns-clause-set c = λ t. set-it c.args.words.now c.args.bit (omega (arith, c.if-at-words.false)) (omega arith)

pub returns-clause-fresh : goal.returns-clause-fresh
returns-clause-fresh c = λ t. set-fresh c.args.words.now c.args.bit (omega arith) c.if-words-at-ne0.false

pub returns-clause-keeps : goal.returns-clause-keeps
returns-clause-keeps c = λ b. set-keeps c.args.words.now c.args.bit b (omega (arith, c.if-at-words.false))
