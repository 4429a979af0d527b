use Rattle.std.proofs.Common.{take, sym}
use Rattle.std.proofs.lemmas.List.{take_all}
use Rattle.std.proofs.lemmas.List.Elements.{All-more, All-same}
use Rattle.mr_check.specs.Windows.{IsRightIn}
use Rattle.mr_check.proofs.windows.are_right.Goals as goal

pub loop-late-preserved : goal.loop-late-preserved
loop-late-preserved c window mapped =
    All-more (IsRightIn c.args.given.now c.args.bits window) c.args.list.now c.loop-late.late-index (record { line = 0; low = 0 }) c.loop-late-test.true (c.loop-late.invariant window mapped) (c.is_right.ensures window c.if-not-is_right.false mapped)

pub returns : goal.returns
returns c window h mapped =
    All-same (IsRightIn c.args.given.now c.args.bits window) c.args.list.now (take c.loop-late.late-index c.args.list.now)
    (sym (take_all c.loop-late.late-index c.args.list.now c.loop-late-test.false)) (c.loop-late.invariant window mapped)
