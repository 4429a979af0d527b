use Rattle.std.proofs.Common.{◌-◌, get_or, sym, arith}
use Rattle.std.proofs.lemmas.Cmp.{nat_cmp_total}
use Rattle.mr_spill.proofs.NameLemmas.{rises-more}
use Rattle.std.specs.Cmp.{nat_cmp_is}
use Rattle.std.specs.declared.cmp.Ordering.TheVariants.{Less}
use Rattle.mr_merge.proofs.distinct.numbers_rise.Goals as goal

pub loop-i-preserved : goal.loop-i-preserved
loop-i-preserved c =
    rises-more nat_cmp_total c.args.numbers.now (c.loop-i.i - 1) c.loop-i.i 0 (omega arith) (omega arith) c.loop-i.invariant
    (sym (nat_cmp_is (get_or c.args.numbers.now (c.loop-i.i - 1) 0) (get_or c.args.numbers.now c.loop-i.i 0) Less (omega (arith, c.if-numbers-i.false))))
