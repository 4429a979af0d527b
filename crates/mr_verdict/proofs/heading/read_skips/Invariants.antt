use Rattle.std.proofs.Common.{◌≡◌, ◌≤◌, ◌-◌, ℕ, List, [], length}
use Rattle.mr_splits.specs.Cut.{records_of}
use Rattle.mr_certform.specs.declared.grammar_state.Item.{Item}
use Rattle.mr_verdict.specs.Verdict.{last_of}
use Rattle.mr_verdict.specs.Steps.{listed, skips_in_front}
use Rattle.mr_verdict.specs.Items.{Each, CanCome}
use Rattle.mr_verdict.proofs.heading.read_skips.Given as goal

abbrev pub invariant-loop-number : goal.invariant-loop-number
invariant-loop-number g l =
    let rs = records_of l.plan in
    record {
      leads : (is : List Item) (at : ℕ) → g.I.ItemSource.gives l.items is at
          → (js : List Item) × (g.I.ItemSource.gives l.initial.items js at × (listed rs at (l.many - l.number) l.skips.items is ≡ listed rs at l.many [] js));
      front : Each (g.I.ItemSource.gives l.items) (skips_in_front (l.many - l.number));
      long : l.number ≡ length l.skips.items;
      before : l.before ≡ last_of l.skips.items;
      given : CanCome (g.I.ItemSource.gives l.items);
      sound : g.I.ItemSource.sound l.items;
      count : g.I.ItemSource.failed l.items ≡ g.I.ItemSource.failed l.initial.items;
      fewer : g.I.ItemSource.most l.items ≤ g.I.ItemSource.most l.initial.items;
    }
