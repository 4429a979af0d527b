use Rattle.mr_bytes.proofs.SortLaws.{rising_is_one, sorted_has, sorted_rises}
use Rattle.mr_bytes.proofs.names.sorted_law.Goals as goal

pub returns-clause-one : goal.returns-clause-one
returns-clause-one c = rising_is_one

pub returns-clause-rises : goal.returns-clause-rises
returns-clause-rises c = sorted_rises

pub returns-clause-elements : goal.returns-clause-elements
returns-clause-elements c = sorted_has
