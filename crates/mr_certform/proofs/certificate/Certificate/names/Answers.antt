use Rattle.std.proofs.Common.{ap, sym, ◌∙◌}
use Rattle.mr_certform.specs.Value.{names_of}
use Rattle.mr_certform.specs.declared.certificate.Certificate.TheInside.{Inside}
use Rattle.mr_certform.proofs.Groups.{all_names}
use Rattle.mr_certform.proofs.certificate.Certificate.names.Goals as goal

pub returns : goal.returns
returns c = c.names.ensures ∙ (ap (λ (i : Inside). i.flat.names) c.self-inside.view_is ∙ (sym (all_names c.self.inside.flat c.self.invariant) ∙ ap names_of c.self.view_is))
