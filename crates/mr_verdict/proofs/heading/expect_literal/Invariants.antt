use Rattle.std.proofs.Common.{◌≡◌, drop, map, ◌≤◌}
use Rattle.mr_certform.specs.declared.grammar_state.Item.TheVariants.{LiteralByte}
use Rattle.mr_verdict.specs.declared.answers.No.TheVariants.{OtherJob}
use Rattle.mr_verdict.specs.Items.{Leads}
use Rattle.mr_verdict.proofs.heading.expect_literal.Given as goal

abbrev pub invariant-loop-byte : goal.invariant-loop-byte
invariant-loop-byte g l = record {
  leads : Leads (g.I.ItemSource.gives l.initial.items) (g.I.ItemSource.gives l.items) (map LiteralByte (drop l.byte-index l.literal)) (map LiteralByte l.literal) OtherJob;
  sound : g.I.ItemSource.sound l.items;
  count : g.I.ItemSource.failed l.items ≡ g.I.ItemSource.failed l.initial.items;
  fewer : g.I.ItemSource.most l.items ≤ g.I.ItemSource.most l.initial.items;
}
