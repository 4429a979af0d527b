use Rattle.mr_certform.proofs.Packed.{packed_is_named}
use Rattle.mr_certform.proofs.laws.packed_law.Goals as goal

pub returns : goal.returns
returns c = packed_is_named
