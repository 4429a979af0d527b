use Rattle.std.proofs.Common.{List, arith}
use Rattle.mr_splits.specs.Named.{NamedRecord, of_split}
use Rattle.mr_splits.specs.Cut.{records_of}
use Rattle.mr_index.specs.Windows.{window_records}
use Rattle.mr_index.proofs.PairLemmas.{range-size}
use Rattle.mr_index.proofs.WorkLemmas.{mapped-few}
use Rattle.mr_index.proofs.piece.Piece.map.Goals as goal

pub map_window-requires-clause-room : goal.map_window-requires-clause-room
map_window-requires-clause-room c =
    let w = c.args.window in
    let rs : List NamedRecord = of_split w.split (records_of c.args.kept.now.cut) in
    omega (
      arith,
      c.new-mapping.ensures.none,
      mapped-few c.args.kept.now.skips (window_records c.args.kept.now.cut w.split w.from w.end),
      range-size rs w.from w.end c.requires.order c.requires.within,
    )
