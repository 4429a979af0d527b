use Rattle.std.proofs.Common.{refl, arith}
use Rattle.mr_certform.proofs.ShortLaws.{writing_first, writing_next, writing_last}
use Rattle.mr_certform.proofs.short.ShortName.push_number.Goals as goal

pub loop-left-init : goal.loop-left-init
loop-left-init c = writing_first c.args.n c.args.self.now (omega arith) (omega arith)

pub loop-left-preserved : goal.loop-left-preserved
loop-left-preserved c =
    let l = c.loop-left in
    writing_next c.args.n l.left _ _ c.args.self.now l.self c.push.new.self l.invariant c.loop-left-test.true (omega arith) refl c.push.ensures

pub returns : goal.returns
returns c =
    let l = c.loop-left in
    writing_last c.args.n l.left _ c.args.self.now l.self c.push-2.new.self l.invariant c.loop-left-test.false refl c.push-2.ensures
