use Rattle.std.proofs.Common.{All, length}
use Rattle.mr_certform.specs.Walking.{items_left}
use Rattle.mr_check.specs.Sections.{IsAt, IsSection}
use Rattle.mr_check.proofs.sections.sections_of.Given as goal

abbrev pub invariant-loop-group : goal.invariant-loop-group
invariant-loop-group l = record {
  here : IsAt l.walker l.here;
  sections : All (IsSection l.walker) l.sections.items;
}

abbrev pub decreases-loop-group : goal.decreases-loop-group
decreases-loop-group l = length (items_left l.here.walker)
