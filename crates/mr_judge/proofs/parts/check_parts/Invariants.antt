use Rattle.std.proofs.Common.{◌≡◌, ◌⊎◌, ◌+◌, ◌-◌, ◌≤◌, ◌^◌}
use Rattle.mr_verdict.specs.Steps.{Room}
use Rattle.mr_verdict.specs.Items.{CanCome, Each}
use Rattle.mr_judge.specs.Borders.{begun_at, ground_of}
use Rattle.mr_judge.specs.Outputs.{CanCome as CanComeAhead, begins}
use Rattle.mr_judge.proofs.JudgingLemmas.{Going, Counts}
use Rattle.mr_judge.proofs.parts.check_parts.Given as goal

abbrev pub invariant-loop-judging : goal.invariant-loop-judging
invariant-loop-judging g l = record {
  going : Going (g.O.Outputs.gives l.initial.outputs) (g.O.Outputs.gives l.outputs) (g.I.ItemSource.gives l.initial.walker) (g.I.ItemSource.gives l.walker) (ground_of l.fn.walk) (begun_at l.fn.walk) l.judging;
  given : CanCome (g.I.ItemSource.gives l.walker);
  some : CanComeAhead (g.O.Outputs.gives l.outputs);
  place : g.O.Outputs.place l.outputs ≡ l.judging.from;
  begun : Each (g.I.ItemSource.gives l.walker) begins ⊎ g.O.Outputs.begun l.outputs;
  sound : g.I.ItemSource.sound l.walker;
  count : g.I.ItemSource.failed l.walker ≡ g.I.ItemSource.failed l.initial.walker;
  failed : g.O.Outputs.failed l.outputs ≡ g.O.Outputs.failed l.initial.outputs;
  room : Room l.judging (g.I.ItemSource.most l.walker) (2 ^ 64 - 1);
  few : l.work.meter.lookups + g.I.ItemSource.most l.walker ≤ l.initial.work.meter.lookups + g.I.ItemSource.most l.initial.walker;
  looked : Counts (begun_at l.fn.walk) l.judging l.initial.work.meter.lookups l.work.meter.lookups;
  mapped : l.work.meter.mapped ≡ l.initial.work.meter.mapped;
}

abbrev pub decreases-loop-judging : goal.decreases-loop-judging
decreases-loop-judging g l = g.I.ItemSource.most l.walker
