use Rattle.std.proofs.Common.{[]}
use Rattle.mr_core.proofs.Promised.{promised}
use Rattle.mr_core.proofs.master.Core.new.Goals as goal

pub returns-clause-run : goal.returns-clause-run
returns-clause-run c = (c.in_ok-new.ensures, promised (record { maps = c.args.maps; parts = c.args.parts; workers = c.args.workers; limits = c.args.limits }) c.requires [] c.in_ok-new.field-0 c.in_ok-new.ensures)
