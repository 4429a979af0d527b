use Rattle.std.proofs.Common.{refl, sym, inr}
use Rattle.mr_script.proofs.Meanings.{meant_is_spelled}
use Rattle.mr_script.proofs.Spelled.{bad_line}
use Rattle.mr_script.proofs.script.add_line.Goals as goal

pub returns-in_ok-push-in-Some : goal.returns-in_ok-push-in-Some
returns-in_ok-push-in-Some c = inr (c.in-Some.directive, meant_is_spelled c.args.line.now c.in-Some.directive (sym c.in-Some.ensures), c.in_ok-push-in-Some.ensures.items)

pub returns-in-None : goal.returns-in-None
returns-in-None c = (refl, bad_line c.args.line.now (λ s. cc (c.says_nothing.ensures.1 s, c.if-says_nothing.false)) (sym c.in-None.ensures))
