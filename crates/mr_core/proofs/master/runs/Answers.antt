use Rattle.mr_core.specs.Master.{opening}
use Rattle.mr_core.proofs.RunLaws.{step_one, run_push, replay_run, run_replay}
use Rattle.mr_core.proofs.master.runs.Goals as goal

pub returns-clause-one : goal.returns-clause-one
returns-clause-one c = step_one

pub returns-clause-longer : goal.returns-clause-longer
returns-clause-longer c = run_push

pub returns-clause-replayed : goal.returns-clause-replayed
returns-clause-replayed c sh h st = (run_replay sh (opening sh) h st, replay_run sh (opening sh) h st)
