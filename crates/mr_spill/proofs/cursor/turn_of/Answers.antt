use Rattle.std.proofs.Common.{IsTrue, true, sym, ◌∙◌, ap, subst, Option}
use Rattle.std.specs.Ordering.{ordering_then}
use Rattle.mr_bytes.specs.Order.{name_order}
use Rattle.mr_spill.specs.declared.cursor.RegionPair.{RegionPair}
use Rattle.mr_spill.specs.Cursor.{IsBehind, IsKeyOf}
use Rattle.mr_spill.proofs.cursor.turn_of.Goals as goal
use Rattle.mr_group.proofs.OrderLemmas.{key_tie}

pub returns-in-Less-compare_names : goal.returns-in-Less-compare_names
returns-in-Less-compare_names c =
    let tied = sym c.compare_keys.ensures ∙ c.in-Equal.is in
    subst (λ (l : Option RegionPair). IsBehind l c.args.key.now c.args.name × (IsTrue true → IsKeyOf l c.args.key.now)) (sym c.in-Some.is) (
      ap (λ o. ordering_then o (name_order c.in-Some.last.name c.args.name)) tied ∙ sym c.compare_names.ensures ∙ c.in-Less-compare_names.is,
      λ again. key_tie c.in-Some.last.key.now c.args.key.now tied,
    )
