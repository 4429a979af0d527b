use Rattle.mr_lanes.proofs.LawLemmas.{no_difference_where_equal, agree_up_to_the_difference}
use Rattle.mr_lanes.proofs.difference.difference_law.Goals as goal

pub returns-clause-equal : goal.returns-clause-equal
returns-clause-equal c = no_difference_where_equal

pub returns-clause-parts : goal.returns-clause-parts
returns-clause-parts c = agree_up_to_the_difference
