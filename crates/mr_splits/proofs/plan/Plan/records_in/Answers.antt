use Rattle.std.proofs.Common.{arith, ap, ◌∙◌, ◌<◌, length}
use Rattle.mr_input.specs.Files.{split_total}
use Rattle.mr_splits.specs.declared.split_table.Row.{Row}
use Rattle.mr_splits.specs.Named.{of_split}
use Rattle.mr_splits.specs.Cut.{Cut, records_of}
use Rattle.mr_splits.proofs.ReadLemmas.{records-in}
use Rattle.mr_splits.proofs.plan.Plan.records_in.Goals as goal

pub returns : goal.returns
returns c =
    let p = c.self.inside in
    let h : c.args.s < length p.table.rows.items =
    omega (arith, c.requires, c.self.invariant.rows, ap (λ (v : Cut). split_total v.size v.files) c.self.view_is) in
    ap (λ (r : Row). r.count) c.index.ensures
    ∙ records-in p.size p.input.now p.table.ends.items p.table.rows.items c.args.s c.index.result.now c.self.invariant.stands c.self.invariant.all h
    ∙ ap (λ (v : Cut). length (of_split c.args.s (records_of v))) c.self.view_is
