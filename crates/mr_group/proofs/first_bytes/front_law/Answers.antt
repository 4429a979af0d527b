use Rattle.mr_group.proofs.FrontOrder.{front-less}
use Rattle.mr_group.proofs.first_bytes.front_law.Goals as goal

pub returns : goal.returns
returns c = front-less 8
