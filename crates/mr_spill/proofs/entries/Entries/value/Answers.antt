use Rattle.std.proofs.Common.{arith, ap, sym, ◌∙◌, ◌<◌, List, length}
use Rattle.std.proofs.lemmas.Slice.Zip.{get_or-zip}
use Rattle.mr_bytes.specs.declared.Name.{Name}
use Rattle.mr_bytes.specs.declared.Value.{Value}
use Rattle.mr_bytes.specs.declared.Value.TheVariants.{One}
use Rattle.mr_spill.specs.Entries.{Entry, nth_entry}
use Rattle.mr_spill.proofs.EntryLemmas.{zip-length}
use Rattle.mr_spill.proofs.entries.Entries.value.Goals as goal

pub get-requires : goal.get-requires
get-requires c =
    let values : List Value = c.self.inside.values in
    let names : List Name = c.self.inside.names.items in
    omega (arith, c.requires, ap length c.self.view_is, zip-length values names c.self.invariant, c.self.invariant)

pub returns : goal.returns
returns c =
    let values : List Value = c.self.inside.values in
    let names : List Name = c.self.inside.names.items in
    let few : c.args.i < length names = omega (arith, c.requires, ap length c.self.view_is, zip-length values names c.self.invariant) in
    let none : Entry = (One, record { split = 0; rec = 0; place = 0 }) in
    c.get.ensures
    ∙ sym (ap (λ (e : Entry). e.0) (get_or-zip values names c.args.i none (omega (arith, few, c.self.invariant)) few))
    ∙ ap (λ (es : List Entry). (nth_entry es c.args.i).0) c.self.view_is
