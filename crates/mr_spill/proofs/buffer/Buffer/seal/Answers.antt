use Rattle.mr_spill.proofs.RegionLaws.{names-under}
use Rattle.mr_spill.proofs.buffer.Buffer.seal.Goals as goal

pub cut-requires-clause-rise : goal.cut-requires-clause-rise
cut-requires-clause-rise c = names-under c.self.inside.pairs c.self.invariant.rise
