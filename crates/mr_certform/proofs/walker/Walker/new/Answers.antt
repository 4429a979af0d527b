use Rattle.std.proofs.Common.{refl, arith}
use Rattle.mr_certform.specs.Spelling.{items_of, stop}
use Rattle.mr_certform.specs.Walking.{items_left, halt}
use Rattle.mr_certform.proofs.walker.Walker.new.Goals as goal

pub returns-clause-items : goal.returns-clause-items
unfolding items_left items_of
returns-clause-items c = rw c.version_of.ensures refl

pub returns-clause-stop : goal.returns-clause-stop
unfolding halt stop items_left items_of
returns-clause-stop c = rw c.version_of.ensures (omega arith)
