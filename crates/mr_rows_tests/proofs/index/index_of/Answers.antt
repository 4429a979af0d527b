use Rattle.std.proofs.Common.{arith}
use Rattle.mr_splits.specs.Cut.{records_of}
use Rattle.mr_index.proofs.WorkLemmas.{mapped-few}
use Rattle.mr_rows_tests.proofs.index.index_of.Goals as goal

pub of-requires : goal.of-requires
of-requires c =
    omega (
      arith,
      c.requires,
      c.count-few.ensures.count,
      c.count-few.ensures.few,
      mapped-few c.args.skips.now (records_of c.args.plan.now),
    )
