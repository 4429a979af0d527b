use Rattle.std.proofs.Common.{◌≤◌, length}
use Rattle.mr_certform.specs.declared.walker.Walker.{Walker}
use Rattle.mr_certform.specs.Walking.{items_left}
use Rattle.mr_check.specs.Sections.{IsAt}
use Rattle.mr_check.proofs.section.Section.pass_to_group.Given as goal

abbrev pub invariant-loop-group : goal.invariant-loop-group
invariant-loop-group l = record {
  passed : (all : Walker) → IsAt all l.initial.self → IsAt all l.self;
  fewer : length (items_left l.self.walker) ≤ length (items_left l.initial.self.walker);
}

abbrev pub decreases-loop-group : goal.decreases-loop-group
decreases-loop-group l = length (items_left l.self.walker)
