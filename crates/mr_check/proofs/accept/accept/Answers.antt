use Rattle.std.specs.Prelude.{Ok}
use Rattle.mr_check.proofs.accept.accept.Goals as goal

pub returns : goal.returns
returns g c = c.in_ok-front.ensures.judged (Ok c.in_ok-pairs.pairs) c.in_ok-pairs.ensures
