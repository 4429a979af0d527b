use Rattle.std.proofs.Common.{◌≡◌, ◌<◌, List, length, arith, ap, sym, ◌∙◌}
use Rattle.mr_bytes.specs.declared.Value.TheVariants.{One}
use Rattle.mr_bytes.specs.Pairs.{Triple}
use Rattle.mr_group.specs.Interner.{key_at}
use Rattle.mr_spill.specs.Column.{no_pair, nth_pair}
use Rattle.mr_spill.specs.Entries.{nth_entry, under_key}
use Rattle.mr_spill.proofs.TableLemmas.{beside-nth, length-beside}
use Rattle.mr_spill.proofs.pair_columns.PairColumns.name.Goals as goal

pub name-requires : goal.name-requires
name-requires c =
    let n = c.self.inside in
    omega (arith, c.requires, ap length c.self.view_is, length-beside n.keys n.entries c.self.invariant.same, c.self.invariant.same)

pub returns : goal.returns
returns c =
    let n = c.self.inside in
    let few : c.args.i < length n.keys = omega (arith, c.requires, ap length c.self.view_is, length-beside n.keys n.entries c.self.invariant.same) in
    let pair : nth_pair c.args.self.now c.args.i ≡ under_key (key_at n.keys c.args.i) (nth_entry n.entries c.args.i) =
    ap (λ (ts : List Triple). nth_pair ts c.args.i) (sym c.self.view_is)
    ∙ beside-nth n.keys n.entries c.args.i (One, record { split = 0; rec = 0; place = 0 }) no_pair few c.self.invariant.same in
    c.name.ensures ∙ sym (ap (λ (t : Triple). t.name) pair)
