use Rattle.mr_verdict.proofs.VerdictPlace.{fault_by_place}
use Rattle.mr_verdict.proofs.answers.place_law.Goals as goal

pub returns : goal.returns
returns c = fault_by_place
