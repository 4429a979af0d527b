use Rattle.std.proofs.Common.{List, ap, sym, ◌∙◌}
use Rattle.mr_core.specs.Master.{Attempt}
use Rattle.mr_core.specs.Index.{Issued}
use Rattle.mr_core.proofs.attempts.Attempts.lose.Goals as goal

pub returns-in-Some : goal.returns-in-Some
returns-in-Some c = c.end.ensures.ended ∙ ap (λ (xs : List Attempt). let new : Issued = record c.args.self.now { items = xs } in new) (sym c.in-Some.ensures.left)

pub returns-in_default : goal.returns-in_default
returns-in_default c = ap (λ (xs : List Attempt). let new : Issued = record c.args.self.now { items = xs } in new) (sym c.in_default.ensures.left)
