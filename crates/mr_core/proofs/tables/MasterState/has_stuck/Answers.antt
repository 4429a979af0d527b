use Rattle.std.proofs.Common.{sym, ◌∙◌}
use Rattle.mr_core.specs.Master.{is_stuck}
use Rattle.mr_core.proofs.TaskSearch.{one_map, one_part}
use Rattle.mr_core.proofs.tables.MasterState.has_stuck.Goals as goal

pub returns-then-is_stuck : goal.returns-then-is_stuck
returns-then-is_stuck c = sym (one_map (is_stuck c.args.shape c.args.self.now) c.args.shape c.loop-split.split c.loop-split-test.true (sym c.is_stuck.ensures ∙ c.if-is_stuck.true))

pub returns-then-is_stuck-2 : goal.returns-then-is_stuck-2
returns-then-is_stuck-2 c = sym (one_part (is_stuck c.args.shape c.args.self.now) c.args.shape c.loop-partition.partition c.loop-partition-test.true (sym c.is_stuck-in-loop-partition.ensures ∙ c.if-is_stuck-2.true))
