use Rattle.std.proofs.Common.{◌∙◌, ap, sym, get_or, List}
use Rattle.mr_bytes.specs.declared.Name.{Name}
use Rattle.mr_certform.specs.Packed.{name_in, name_under}
use Rattle.mr_certform.specs.Places.{first_name}
use Rattle.mr_certform.specs.declared.record_names.NameSpan.{NameSpan}
use Rattle.mr_certform.proofs.Packed.{packed_held}
use Rattle.mr_certform.proofs.names.Names.get.Goals as goal

pub returns-then-i-self : goal.returns-then-i-self
unfolding name_under
returns-then-i-self c =
    let n = c.self.inside in
    c.name.ensures ∙ ap (λ (s : NameSpan). name_in s (get_or n.packed.now c.args.i 0)) c.span_with.ensures.span
    ∙ sym (packed_held n.spans.now n.packed.now n.plain.now c.args.i first_name c.if-i-self.true)
    ∙ ap (λ (l : List Name). get_or l c.args.i first_name) c.self.view_is
