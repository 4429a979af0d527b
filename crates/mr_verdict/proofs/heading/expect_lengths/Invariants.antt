use Rattle.std.proofs.Common.{◌≡◌, ℕ, List, drop, length, map, ◌≤◌}
use Rattle.mr_certform.specs.declared.grammar_state.Item.TheVariants.{FileLength}
use Rattle.mr_verdict.specs.declared.answers.No.TheVariants.{OtherInput}
use Rattle.mr_verdict.specs.Items.{Leads, CanCome}
use Rattle.mr_verdict.proofs.heading.expect_lengths.Given as goal

abbrev pub invariant-loop-i : goal.invariant-loop-i
invariant-loop-i g l = record {
  leads : Leads (g.I.ItemSource.gives l.initial.items) (g.I.ItemSource.gives l.items) (map (λ (f : List ℕ). FileLength (length f)) (drop l.i l.input)) (map (λ (f : List ℕ). FileLength (length f)) l.input) OtherInput;
  given : CanCome (g.I.ItemSource.gives l.items);
  sound : g.I.ItemSource.sound l.items;
  count : g.I.ItemSource.failed l.items ≡ g.I.ItemSource.failed l.initial.items;
  fewer : g.I.ItemSource.most l.items ≤ g.I.ItemSource.most l.initial.items;
}
