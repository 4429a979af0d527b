use Rattle.std.proofs.Common.{◌<◌, List, [], length, arith, ap, sym, ◌∙◌}
use Rattle.mr_bytes.specs.Pairs.{Triple}
use Rattle.mr_spill.specs.Column.{no_pair, nth_pair}
use Rattle.mr_spill.specs.Entries.{nth_entry}
use Rattle.mr_spill.proofs.TableLemmas.{beside-nth, length-beside}
use Rattle.mr_spill.proofs.pair_columns.PairColumns.key.Goals as goal

pub get-requires : goal.get-requires
get-requires c =
    let n = c.self.inside in
    omega (arith, c.requires, ap length c.self.view_is, length-beside n.keys n.entries c.self.invariant.same)

pub returns : goal.returns
returns c =
    let n = c.self.inside in
    let few : c.args.i < length n.keys = omega (arith, c.requires, ap length c.self.view_is, length-beside n.keys n.entries c.self.invariant.same) in
    c.get.ensures
    ∙ sym (ap (λ (t : Triple). t.key) (beside-nth n.keys n.entries c.args.i (nth_entry [] 0) no_pair few c.self.invariant.same))
    ∙ ap (λ (ts : List Triple). (nth_pair ts c.args.i).key) c.self.view_is
