use Rattle.std.proofs.Common.{arith, refl}
use Rattle.mr_spill.proofs.spelling.worked_regions.Goals as goal

pub returns-clause-region : goal.returns-clause-region
returns-clause-region c = refl

pub returns-clause-sizes : goal.returns-clause-sizes
returns-clause-sizes c = (refl, refl, refl)

pub returns-clause-falling : goal.returns-clause-falling
returns-clause-falling c bytes s = cc s.rise.0.0

pub returns-clause-other : goal.returns-clause-other
returns-clause-other c bytes s = absurd (omega (arith, s.own.0))
