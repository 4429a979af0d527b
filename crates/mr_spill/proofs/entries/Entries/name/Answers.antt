use Rattle.std.proofs.Common.{arith, ap, sym, ◌∙◌, ◌<◌, List, length}
use Rattle.std.proofs.lemmas.List.{get_or_default}
use Rattle.std.proofs.lemmas.Slice.Zip.{get_or-zip}
use Rattle.mr_bytes.specs.declared.Name.{Name}
use Rattle.mr_bytes.specs.declared.Value.{Value}
use Rattle.mr_bytes.specs.declared.Value.TheVariants.{One}
use Rattle.mr_spill.specs.Entries.{Entry, nth_entry}
use Rattle.mr_spill.proofs.EntryLemmas.{zip-length}
use Rattle.mr_spill.proofs.entries.Entries.name.Goals as goal

pub index-requires : goal.index-requires
index-requires c =
    let e = c.self.inside in
    omega (arith, c.requires, ap length c.self.view_is, zip-length e.values e.names.items c.self.invariant, e.names.ok.0)

pub returns : goal.returns
returns c =
    let values : List Value = c.self.inside.values in
    let names : List Name = c.self.inside.names.items in
    let few : c.args.i < length names = omega (arith, c.requires, ap length c.self.view_is, zip-length values names c.self.invariant) in
    let none : Entry = (One, record { split = 0; rec = 0; place = 0 }) in
    c.index.ensures ∙ get_or_default names c.args.i c.index.result.now none.1 few
    ∙ sym (ap (λ (e : Entry). e.1) (get_or-zip values names c.args.i none (omega (arith, few, c.self.invariant)) few))
    ∙ ap (λ (es : List Entry). (nth_entry es c.args.i).1) c.self.view_is
