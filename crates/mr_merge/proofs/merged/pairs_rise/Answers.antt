use Rattle.std.proofs.Common.{◌-◌, arith}
use Rattle.mr_spill.specs.Column.{no_pair}
use Rattle.mr_spill.proofs.RegionLaws.{pair_total}
use Rattle.mr_spill.proofs.NameLemmas.{rises-more}
use Rattle.mr_merge.proofs.merged.pairs_rise.Goals as goal
use Rattle.mr_group.proofs.ListLemmas.{rises-at}
use Rattle.mr_bytes.specs.Pairs.{pair_order}

pub returns-then-not-is_before : goal.returns-then-not-is_before
returns-then-not-is_before c = (
  λ h. absurd (cc h),
  λ r. cc (c.is_before.ensures.1 (rises-at pair_order c.args.pairs.now (c.loop-i.i - 1) c.loop-i.i no_pair no_pair r (omega arith) (omega arith)), c.if-not-is_before.true),
)

pub loop-i-preserved : goal.loop-i-preserved
loop-i-preserved c =
    rises-more pair_total c.args.pairs.now (c.loop-i.i - 1) c.loop-i.i no_pair (omega arith) (omega arith) c.loop-i.invariant
    (c.is_before.ensures.0 (cc c.if-not-is_before.false))
