use Rattle.std.proofs.Common.{ap, subst, ◌∙◌}
use Rattle.mr_merge.specs.Merged.{NamesDiffer, merged}
use Rattle.mr_merge.specs.Reduction.{Collected}
use Rattle.mr_merge.proofs.GroupLemmas.{grouped-merged}
use Rattle.mr_merge.proofs.reduction.Reduction.groups.Goals as goal

pub returns-then-in_turn-clause-differ : goal.returns-then-in_turn-clause-differ
returns-then-in_turn-clause-differ c =
    subst (λ (r : Collected). NamesDiffer r.pairs) c.self.view_is ((c.self.invariant c.if-in_turn.true).differ)

pub returns-then-in_turn-clause-groups : goal.returns-then-in_turn-clause-groups
returns-then-in_turn-clause-groups c =
    grouped-merged c.self.inside.all.pairs c.in_ok-group_pairs.field-0 ((c.self.invariant c.if-in_turn.true).rise) c.in_ok-group_pairs.ensures ∙ ap (λ (r : Collected). merged r.pairs) c.self.view_is
