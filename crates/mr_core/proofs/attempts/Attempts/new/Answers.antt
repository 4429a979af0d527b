use Rattle.std.proofs.lemmas.Result.{IfOk-from_err}
use Rattle.mr_core.proofs.Indexed.{indexed_new}
use Rattle.mr_core.proofs.attempts.Attempts.new.Goals as goal

pub returns-in_err-new : goal.returns-in_err-new
returns-in_err-new c = IfOk-from_err c.from_residual.result _ c.from_residual.ensures.0

pub returns-in_err-copies : goal.returns-in_err-copies
returns-in_err-copies c = IfOk-from_err c.from_residual-in_err-copies.result _ c.from_residual-in_err-copies.ensures.0

pub invariant_of-result : goal.invariant_of-result
invariant_of-result c = rw (c.new.ensures.items, c.in_ok-new.ensures, c.in_ok-copies.ensures) (indexed_new c.args.maps c.args.parts c.args.workers)
