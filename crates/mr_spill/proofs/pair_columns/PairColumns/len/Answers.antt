use Rattle.std.proofs.Common.{length, arith, ap}
use Rattle.mr_spill.proofs.TableLemmas.{length-beside}
use Rattle.mr_spill.proofs.pair_columns.PairColumns.len.Goals as goal

pub returns : goal.returns
returns c =
    let n = c.self.inside in
    omega (arith, c.len.ensures, length-beside n.keys n.entries c.self.invariant.same, ap length c.self.view_is)
