use Rattle.std.proofs.Common.{arith}
use Rattle.mr_check.proofs.LineKeyLemmas.{near_tells}
use Rattle.mr_check.proofs.lines.told_key.Goals as goal

pub returns-then-tells_near : goal.returns-then-tells_near
returns-then-tells_near c =
    near_tells c.args.rest.now c.args.rest.now 0 _ (omega arith) (omega arith) (c.tells_near.ensures c.if-tells_near.true)
