use Rattle.std.proofs.Common.{◌∙◌}
use Rattle.mr_certform.proofs.Spelled.{all_spelled}
use Rattle.mr_certform.proofs.laws.pieces_law.Goals as goal

pub returns : goal.returns
returns c v bytes d so_far all = record { fits = so_far.front d.groups all so_far.groups; can = so_far.can; spelled = so_far.text ∙ all_spelled v d all }
