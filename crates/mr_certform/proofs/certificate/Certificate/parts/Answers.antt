use Rattle.std.proofs.Common.{length, ap, ◌∙◌}
use Rattle.mr_certform.specs.Value.{Contents}
use Rattle.mr_certform.specs.declared.certificate.Certificate.TheInside.{Inside}
use Rattle.mr_certform.proofs.Groups.{all_parts}
use Rattle.mr_certform.proofs.certificate.Certificate.parts.Goals as goal

pub returns-clause-each : goal.returns-clause-each
returns-clause-each c = ap (λ (i : Inside). i.flat.parts) c.self-inside.view_is ∙ (all_parts c.self.inside.flat c.self.invariant ∙ ap (λ (v : Contents). length v.groups) c.self.view_is)
