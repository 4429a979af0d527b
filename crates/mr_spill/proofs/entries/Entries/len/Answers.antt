use Rattle.std.proofs.Common.{arith, ap, List, length}
use Rattle.mr_bytes.specs.declared.Value.{Value}
use Rattle.mr_spill.proofs.EntryLemmas.{zip-length}
use Rattle.mr_spill.proofs.entries.Entries.len.Goals as goal

pub returns : goal.returns
returns c =
    let values : List Value = c.self.inside.values in
    omega (arith, c.len.ensures, c.self.inside.names.ok.0, ap length c.self.view_is, zip-length values c.self.inside.names.items c.self.invariant)
