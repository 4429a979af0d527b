use Rattle.mr_certform.proofs.ItemLaws.{is_front, again, apart}
use Rattle.mr_certform.proofs.laws.item_law.Goals as goal

pub returns-clause-read : goal.returns-clause-read
returns-clause-read c = λ v p bytes f fits e. let h = is_front v bytes fits p f e in (h.may, h.can, h.spelled)

pub returns-clause-spelled : goal.returns-clause-spelled
returns-clause-spelled c = λ v p i rest h can e. again v rest p i h can e

pub returns-clause-apart : goal.returns-clause-apart
returns-clause-apart c = apart
