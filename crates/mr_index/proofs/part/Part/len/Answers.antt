use Rattle.std.proofs.Common.{arith, ap, length}
use Rattle.mr_index.specs.Pairs.{pairs_seen}
use Rattle.mr_index.proofs.NumberedLemmas.{length-numbered}
use Rattle.mr_index.proofs.part.Part.len.Goals as goal

pub returns-clause-count : goal.returns-clause-count
returns-clause-count c =
    let p = c.self.inside in
    omega (arith, c.len.ensures, ap length c.self.view_is, length-numbered p.split 0 0 p.tables.ends.items (pairs_seen p.tables.pairs) c.self.invariant.rise)
