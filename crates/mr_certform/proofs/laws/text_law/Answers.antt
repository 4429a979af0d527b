use Rattle.std.proofs.Common.{◌≡◌, ℕ, List, [], ◌∷◌, refl, ◌∙◌, ap, subst, drop}
use Rattle.std.specs.List.{AllByRecursion}
use Rattle.mr_bytes.specs.declared.Name.{Name}
use Rattle.mr_certform.specs.declared.version.Version.{Version}
use Rattle.mr_certform.specs.Value.{Contents, NameFits, SkipFits, SpellsIn}
use Rattle.mr_certform.specs.Flat.{Told, chunks, contents_of}
use Rattle.mr_certform.specs.Pieces.{all_bytes}
use Rattle.mr_certform.proofs.Pieces.{All-take, All-drop}
use Rattle.mr_certform.proofs.Spelled.{whole_spells}
use Rattle.mr_certform.proofs.Versions.{parts_can}
use Rattle.mr_certform.proofs.laws.text_law.Goals as goal

chunks_fit : (cs : List ℕ) (ns : List Name) → AllByRecursion NameFits ns → AllByRecursion (AllByRecursion NameFits) (chunks cs ns)
chunks_fit [] ns h = tt
chunks_fit (c ∷ cs) ns h = (All-take NameFits c ns h, chunks_fit cs (drop c ns) (All-drop NameFits c ns h))

-- what is known of the values is known of the certificate that they are
known : (v : Version) (t : Told) (d : Contents) → contents_of t ≡ d → SpellsIn v (all_bytes v (contents_of t)) (contents_of t) → SpellsIn v (all_bytes v d) d
known v t d same h = subst (λ (w : Contents). SpellsIn v (all_bytes v w) w) same h

pub returns : goal.returns
returns c =
    let v = c.args.spelled.now.version in
    let t : Told = c.flat-flat.result.now in
    let e = c.flat-flat.ensures in
    let names : AllByRecursion NameFits c.flat-flat.result.now.names = subst (AllByRecursion NameFits) (c.names.ensures ∙ ap (λ (t : Told). t.names) c.flat.view_is) c.names_fit.ensures in
    let skips : AllByRecursion SkipFits c.flat-flat.result.now.skips = subst (AllByRecursion SkipFits) (c.deref.ensures.value ∙ ap (λ (t : Told). t.skips) c.flat.view_is) c.skips_fit.ensures in
    known v t c.args.spelled.now.certificate e.is
    (whole_spells v (all_bytes v (contents_of t)) t e.whole c.numbers_fit.ensures (parts_can v t e.can) (refl, (skips, chunks_fit t.entry_counts t.names names)))
