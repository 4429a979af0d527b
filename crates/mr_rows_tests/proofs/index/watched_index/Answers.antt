use Rattle.std.proofs.Common.{arith, ap, length}
use Rattle.mr_splits.specs.Cut.{Cut, records_of}
use Rattle.mr_index.proofs.WorkLemmas.{mapped-few}
use Rattle.mr_rows_tests.proofs.index.watched_index.Goals as goal

pub of_watched-requires : goal.of_watched-requires
of_watched-requires c =
    omega (
      arith,
      c.requires,
      c.count-few.ensures.count,
      c.count-few.ensures.few,
      ap (λ (w : Cut). length (records_of w)) c.plan.ensures,
      mapped-few c.args.kept.now.skips (records_of c.args.kept.now.cut),
    )
