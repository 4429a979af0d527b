use Rattle.std.proofs.Common.{refl, inl, inr}
use Rattle.mr_merge.proofs.merged.worked_groups.Goals as goal

pub returns-clause-groups : goal.returns-clause-groups
returns-clause-groups c = refl

pub returns-clause-twice : goal.returns-clause-twice
returns-clause-twice c = λ s. s.names_differ.0 (inr (inr (inl refl)))

pub returns-clause-keys : goal.returns-clause-keys
returns-clause-keys c = λ s. s.names_differ.1.1.0 (inl refl)

pub returns-clause-falling : goal.returns-clause-falling
returns-clause-falling c = λ s. cc s.in_order.0.0.0
