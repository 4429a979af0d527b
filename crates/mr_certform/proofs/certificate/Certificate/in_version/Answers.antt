use Rattle.std.proofs.Common.{◌≡◌, ◌∙◌, ap, refl, sym, subst}
use Rattle.std.proofs.lemmas.Bool.{false≢true}
use Rattle.std.specs.List.{AllByRecursion}
use Rattle.mr_certform.specs.declared.certificate.Certificate.TheInside.{Inside}
use Rattle.mr_certform.specs.Value.{Contents, CanSpell}
use Rattle.mr_certform.proofs.Versions.{parts_can, groups_can}
use Rattle.mr_certform.proofs.certificate.Certificate.in_version.Goals as goal

pub returns-then-not-can_spell : goal.returns-then-not-can_spell
returns-then-not-can_spell c = λ can.
    let flat = c.self.inside.flat in
    let es : c.deref.result.now ≡ c.self.inside.flat.entry_counts = c.deref.ensures.value ∙ ap (λ (i : Inside). i.flat.entry_counts) c.self-inside.view_is in
    let ns : c.names.result ≡ c.self.inside.flat.names = c.names.ensures ∙ ap (λ (i : Inside). i.flat.names) c.self-inside.view_is in
    let groups = groups_can c.args.version flat c.self.invariant (subst (λ (w : Contents). AllByRecursion (CanSpell c.args.version) w.groups) (sym c.self.view_is) can) in
    false≢true (c.if-not-can_spell.ensures.1 (rw (es, ns) groups))

pub invariant_of-result : goal.invariant_of-result
invariant_of-result c =
    let es : c.deref.result.now ≡ c.self.inside.flat.entry_counts = c.deref.ensures.value ∙ ap (λ (i : Inside). i.flat.entry_counts) c.self-inside.view_is in
    let ns : c.names.result ≡ c.self.inside.flat.names = c.names.ensures ∙ ap (λ (i : Inside). i.flat.names) c.self-inside.view_is in
    let can = rw (es, ns) at (c.if-not-can_spell.ensures.0 refl) in
    subst (λ (w : Contents). AllByRecursion (CanSpell c.args.version) w.groups) c.self.view_is (parts_can c.args.version c.self.inside.flat can)
