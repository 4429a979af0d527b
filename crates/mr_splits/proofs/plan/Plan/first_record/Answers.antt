use Rattle.std.proofs.Common.{arith, ap, subst, ◌∙◌, ◌≡◌, ◌<◌, length}
use Rattle.mr_input.specs.Files.{split_total}
use Rattle.mr_splits.specs.declared.split_table.Row.{Row}
use Rattle.mr_splits.specs.Laws.{joined_splits}
use Rattle.mr_splits.specs.Cut.{Cut, records_of}
use Rattle.mr_splits.proofs.ReadLemmas.{first-is, split-within}
use Rattle.mr_splits.proofs.plan.Plan.first_record.Goals as goal

pub returns : goal.returns
returns c =
    let p = c.self.inside in
    let v = c.self.view_is in
    let same : split_total p.size p.input.now ≡ split_total c.args.self.now.size c.args.self.now.files = ap (λ (v : Cut). split_total v.size v.files) v in
    let h : c.args.s < length p.table.rows.items = omega (arith, c.requires, c.self.invariant.rows, same) in
    let first : c.index.result.now.first ≡ length (joined_splits 0 c.args.s (records_of c.args.self.now)) =
    ap (λ (r : Row). r.first) c.index.ensures
    ∙ first-is p.size p.input.now p.table.ends.items p.table.rows.items c.args.s c.index.result.now c.self.invariant.stands c.self.invariant.all h
    ∙ ap (λ (v : Cut). length (joined_splits 0 c.args.s (records_of v))) v in
    let some : 0 < c.args.self.now.size = subst (λ (v : Cut). 0 < v.size) v c.self.invariant.some in
    record {
      number = first;
      within = omega (arith, first, split-within c.args.self.now.size c.args.self.now.files c.args.s some c.requires);
    }
