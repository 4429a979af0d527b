use Rattle.std.proofs.Common.{◌-◌, ◌≤◌, ◌^◌, All}
use Rattle.mr_certform.specs.declared.walker.Walker.{Walker}
use Rattle.mr_verdict.specs.Steps.{Known}
use Rattle.mr_judge.specs.Borders.{IsSmall}
use Rattle.mr_check.specs.Sections.{AreWalked, CameToSection, IsSection}
use Rattle.mr_check.proofs.joining.join.Given as goal

abbrev pub invariant-loop-here : goal.invariant-loop-here
invariant-loop-here l = record {
  few : l.here.walks ≤ l.most;
  small : IsSmall l.here.border × (l.here.named ≤ 2 ^ 32);
  came : (k : Known) (all : Walker) → All (IsSection all) l.sections → AreWalked k l.sections l.walked → CameToSection k all l.sections l.walked l.here;
}

abbrev pub decreases-loop-here : goal.decreases-loop-here
decreases-loop-here l = l.most - l.here.walks
