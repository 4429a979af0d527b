use Rattle.std.proofs.Common.{subst, sym}
use Rattle.std.specs.Ordering.{nat_cmp}
use Rattle.mr_bytes.specs.Lists.{Rises}
use Rattle.mr_core.proofs.Sets.{set_rises}
use Rattle.mr_core.proofs.master.Core.set.Goals as goal

pub returns-clause-rises : goal.returns-clause-rises
returns-clause-rises c = subst (Rises nat_cmp) (sym c.set.ensures) (set_rises c.self.inside.shape c.self.inside.tables c.args.split c.self.invariant.1)
