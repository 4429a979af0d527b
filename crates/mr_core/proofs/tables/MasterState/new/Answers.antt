use Rattle.std.proofs.lemmas.Result.{IfOk-from_err}
use Rattle.mr_core.proofs.tables.MasterState.new.Goals as goal

pub returns-in_err-lost : goal.returns-in_err-lost
returns-in_err-lost c = IfOk-from_err c.from_residual.result _ c.from_residual.ensures.0

pub returns-in_err-attempts : goal.returns-in_err-attempts
returns-in_err-attempts c = IfOk-from_err c.from_residual-in_err-attempts.result _ c.from_residual-in_err-attempts.ensures.0

pub returns-in_err-new : goal.returns-in_err-new
returns-in_err-new c = IfOk-from_err c.from_residual-in_err-new.result _ c.from_residual-in_err-new.ensures.0

pub returns-in_err-new-2 : goal.returns-in_err-new-2
returns-in_err-new-2 c = IfOk-from_err c.from_residual-in_err-new-2.result _ c.from_residual-in_err-new-2.ensures.0

pub returns-in_err-none_failed : goal.returns-in_err-none_failed
returns-in_err-none_failed c = IfOk-from_err c.from_residual-in_err-none_failed.result _ c.from_residual-in_err-none_failed.ensures.0
