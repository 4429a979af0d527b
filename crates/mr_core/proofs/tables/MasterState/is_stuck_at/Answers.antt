use Rattle.std.proofs.Common.{sym, ◌∙◌}
use Rattle.mr_core.proofs.EndTests.{stuck_first, stuck_second}
use Rattle.mr_core.proofs.tables.MasterState.is_stuck_at.Goals as goal

pub returns-then-is_stuck_one : goal.returns-then-is_stuck_one
returns-then-is_stuck_one c = c.if-is_stuck_one.true ∙ stuck_first c.args.shape c.args.self.now c.args.task c.args.other c.requires (sym c.is_stuck_one.ensures ∙ c.if-is_stuck_one.true)

pub returns-else-is_stuck_one : goal.returns-else-is_stuck_one
returns-else-is_stuck_one c = c.is_stuck_one-else-is_stuck_one.ensures ∙ stuck_second c.args.shape c.args.self.now c.args.task c.args.other c.requires (sym c.is_stuck_one.ensures ∙ c.if-is_stuck_one.false)
