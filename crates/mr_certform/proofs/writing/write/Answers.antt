use Rattle.std.proofs.Common.{◌≡◌, ap, ◌∙◌, subst, rules}
use Rattle.mr_certform.specs.Value.{Versioned, CanSpell, SpellsIn}
use Rattle.mr_certform.specs.Flat.{Told, chunks, contents_of}
use Rattle.mr_certform.specs.Pieces.{all_bytes}
use Rattle.mr_certform.proofs.Spelled.{whole_spells}
use Rattle.mr_certform.proofs.Versions.{parts_can}
use Rattle.mr_certform.proofs.writing.write.Goals as goal

pub returns-clause-spelled : goal.returns-clause-spelled
returns-clause-spelled c =
    let v = c.args.version in
    let t : Told = c.flat-flat.result.now in
    let e = c.flat-flat.ensures in
    let is = c.in-Some.ensures in
    let can = subst (λ (s : Versioned). CanSpell s.version (chunks c.flat-flat.result.now.entry_counts c.flat-flat.result.now.names)) is e.can in
    let text : c.put_values.new.out.items ≡ all_bytes c.args.version (contents_of c.flat-flat.result.now) = search rules in
    subst (SpellsIn c.args.version c.put_values.new.out.items) (e.is ∙ ap (λ (s : Versioned). s.certificate) is)
    (whole_spells v c.put_values.new.out.items t e.whole c.numbers_fit.ensures (parts_can v t can) (text, c.in_ok-put_values.ensures.1))
