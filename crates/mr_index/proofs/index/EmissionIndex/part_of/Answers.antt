use Rattle.std.proofs.Common.{arith, ap, length}
use Rattle.mr_splits.specs.Cut.{Cut, records_of}
use Rattle.mr_splits.specs.Named.{of_split}
use Rattle.mr_index.proofs.WorkLemmas.{mapped-few}
use Rattle.mr_index.proofs.index.EmissionIndex.part_of.Goals as goal

pub map_split-requires-clause-room : goal.map_split-requires-clause-room
map_split-requires-clause-room c =
    omega (
      arith,
      c.new-mapping.ensures.none,
      mapped-few c.args.kept.now.skips (of_split c.args.split (records_of c.args.kept.now.cut)),
      c.records_in-few.ensures,
      ap (λ (w : Cut). length (of_split c.args.split (records_of w))) c.plan-plan.ensures,
    )
