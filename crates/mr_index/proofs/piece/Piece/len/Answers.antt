use Rattle.std.proofs.Common.{arith, ap, length}
use Rattle.mr_index.specs.Pairs.{pairs_seen}
use Rattle.mr_index.specs.Windows.{PieceView}
use Rattle.mr_index.proofs.NumberedLemmas.{length-numbered}
use Rattle.mr_index.proofs.piece.Piece.len.Goals as goal

pub returns : goal.returns
returns c =
    let p = c.self.inside in
    omega (
      arith,
      c.len.ensures,
      ap (λ (v : PieceView). length v.triples) c.self.view_is,
      length-numbered p.window.split p.window.from 0 p.tables.ends.items (pairs_seen p.tables.pairs) c.self.invariant.rise,
    )
