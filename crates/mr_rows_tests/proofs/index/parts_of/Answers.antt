use Rattle.std.proofs.Common.{arith, ap}
use Rattle.mr_input.specs.Files.{split_total}
use Rattle.mr_splits.specs.Cut.{Cut}
use Rattle.mr_rows_tests.proofs.index.parts_of.Goals as goal

pub returns : goal.returns
returns c =
    let inv = c.loop-split.invariant in
    let size = ap (λ (w : Cut). w.size) c.plan-plan.ensures in
    let total = ap (λ (w : Cut). split_total w.size w.files) c.plan-plan.ensures in
    record {
      size = omega (arith, c.size-size.ensures.within, c.size-size.ensures.same, size);
      few = omega (arith, inv.many, inv.within, c.splits-splits.ensures.few);
      one_each = omega (arith, inv.many, inv.within, c.loop-split-test.false, c.splits-splits.ensures.count, total);
      each = inv.each;
    }
