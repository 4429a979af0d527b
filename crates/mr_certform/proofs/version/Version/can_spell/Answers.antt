use Rattle.std.proofs.Common.{refl}
use Rattle.mr_certform.proofs.Spelled.{whole_groups}
use Rattle.mr_certform.proofs.version.Version.can_spell.Goals as goal

pub returns-in-V1 : goal.returns-in-V1
returns-in-V1 c = rw c.in-V1.is (λ _. whole_groups _, λ _. refl)

pub returns-in-V2 : goal.returns-in-V2
returns-in-V2 c = rw c.in-V2.is c.never_fall.ensures
