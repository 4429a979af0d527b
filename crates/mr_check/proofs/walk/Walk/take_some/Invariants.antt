use Rattle.std.proofs.Common.{◌≡◌, ◌-◌, ◌≤◌}
use Rattle.mr_verdict.specs.Steps.{Room}
use Rattle.mr_check.specs.Claims.{claims_of}
use Rattle.mr_check.specs.Walk.{Stands, known}
use Rattle.mr_check.proofs.WalkLemmas.{Going}
use Rattle.mr_check.proofs.walk.Walk.take_some.Given as goal

abbrev pub invariant-loop-left : goal.invariant-loop-left
invariant-loop-left g l = record {
  windows : l.self.claims.windows ≡ l.initial.self.claims.windows;
  left : l.left ≤ l.most;
  sound : g.I.ItemSource.sound l.items;
  few : g.I.ItemSource.most l.items ≤ g.I.ItemSource.most l.initial.items;
  stands : Stands (known l.given) l.self;
  room : Room l.self.judging (g.I.ItemSource.most l.items) (9223372041149743104);
  going : Going (g.I.ItemSource.gives l.initial.items) (g.I.ItemSource.gives l.items) (known l.given) (claims_of l.self.claims) l.initial.self.judging l.self.judging (l.most - l.left);
}

abbrev pub decreases-loop-left : goal.decreases-loop-left
decreases-loop-left g l = g.I.ItemSource.most l.items
