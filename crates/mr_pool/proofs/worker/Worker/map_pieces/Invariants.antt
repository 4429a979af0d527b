use Rattle.std.proofs.Common.{◌-◌}
use Rattle.mr_task.specs.Tasks.{records_in}
use Rattle.mr_pool.proofs.worker.Worker.map_pieces.Given as goal

abbrev pub decreases-loop-shared : goal.decreases-loop-shared
decreases-loop-shared g l = records_in l.rest - l.rest.next
