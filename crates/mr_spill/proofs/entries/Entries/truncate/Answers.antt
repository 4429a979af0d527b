use Rattle.std.proofs.Common.{List, ap, take, ◌∙◌}
use Rattle.std.specs.List.{zip}
use Rattle.mr_bytes.specs.declared.Name.{Name}
use Rattle.mr_bytes.specs.declared.Value.{Value}
use Rattle.mr_spill.proofs.EntryLemmas.{zip-take}
use Rattle.mr_spill.proofs.entries.Entries.truncate.Goals as goal

pub returns : goal.returns
returns c =
    let e = c.self.inside in
    ap (λ (vs : List Value). zip vs c.truncate-2.new.self.items) c.truncate.ensures
    ∙ ap (λ (ns : List Name). zip (take c.args.count e.values) ns) c.truncate-2.ensures.items
    ∙ zip-take c.args.count e.values e.names.items
    ∙ ap (take c.args.count) c.self.view_is
