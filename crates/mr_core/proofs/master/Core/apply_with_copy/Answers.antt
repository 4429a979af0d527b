use Rattle.std.proofs.Common.{subst}
use Rattle.mr_core.specs.Core.{CoreView, InLimits}
use Rattle.mr_core.proofs.EqualReplies.{pair_goes_on}
use Rattle.mr_core.proofs.master.Core.apply_with_copy.Goals as goal

pub returns-clause-run : goal.returns-clause-run
returns-clause-run c = pair_goes_on c.args.self.now c.args.event c.step.result c.step.new.self (subst (λ (v : CoreView). InLimits v.shape) c.self.view_is c.self.invariant.0) c.step.ensures.ok
