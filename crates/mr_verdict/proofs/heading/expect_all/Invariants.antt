use Rattle.std.proofs.Common.{◌≡◌, drop, ◌≤◌}
use Rattle.mr_verdict.specs.Items.{Leads}
use Rattle.mr_verdict.proofs.heading.expect_all.Given as goal

abbrev pub invariant-loop-item : goal.invariant-loop-item
invariant-loop-item g l = record {
  leads : Leads (g.I.ItemSource.gives l.initial.items) (g.I.ItemSource.gives l.items) (drop l.item-index l.wanted) l.wanted l.fault;
  sound : g.I.ItemSource.sound l.items;
  count : g.I.ItemSource.failed l.items ≡ g.I.ItemSource.failed l.initial.items;
  fewer : g.I.ItemSource.most l.items ≤ g.I.ItemSource.most l.initial.items;
}
