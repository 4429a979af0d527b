use Rattle.std.proofs.Common.{◌∷◌, ◌∙◌, ap, sym, List}
use Rattle.mr_bytes.specs.declared.Name.{Name}
use Rattle.mr_certform.specs.Packed.{name_in, name_under, names_held}
use Rattle.mr_certform.specs.declared.record_names.NameSpan.{NameSpan}
use Rattle.mr_certform.proofs.names.Names.next.Goals as goal

pub returns-in-Some : goal.returns-in-Some
unfolding name_under
returns-in-Some c =
    let n = c.self.inside in
    let rest : List Name = names_held n.spans.now c.in-Some.rest.now n.plain.now in
    sym c.self.view_is ∙ ap (λ l. names_held n.spans.now l n.plain.now) c.in-Some.ensures.cases.0
    ∙ ap (λ (m : Name). m ∷ rest) (sym (c.name.ensures ∙ ap (λ (s : NameSpan). name_in s c.in-Some.number.now) c.span_with-end.ensures.span))
