use Rattle.std.proofs.Common.{ap, sym, arith, ◌∙◌}
use Rattle.mr_records.proofs.EndLemmas.{enough_ends, start_of, nth_is, starts_behind, starts_within}
use Rattle.mr_records.proofs.Records.start.Goals as goal

pub index-requires : goal.index-requires
index-requires c =
    let ends = c.self.inside.ends in
    omega (arith, enough_ends c.self.inside.bytes.now ends.items c.args.self.now c.args.i c.self.view_is c.requires, ends.ok.0)

pub overflow_add-result : goal.overflow_add-result
overflow_add-result c =
    let file = c.self.inside.bytes.now in
    let ends = c.self.inside.ends.items in
    let place = starts_behind file ends c.args.self.now c.args.i c.index.result.now c.self.view_is c.requires c.if-i-eq0.false c.index.ensures in
    let within = starts_within file ends c.args.self.now c.args.i c.self.invariant.rise c.self.view_is c.requires in
    omega (arith, place, within, c.self.invariant.small)

pub returns-then-i-eq0-clause-place : goal.returns-then-i-eq0-clause-place
returns-then-i-eq0-clause-place c =
    let ends = c.self.inside.ends.items in
    sym (ap (λ r. r.start) (nth_is c.self.inside.bytes.now ends c.args.self.now c.args.i c.self.view_is c.requires) ∙ ap (start_of 0 ends) c.if-i-eq0.true)

pub returns-else-i-eq0-clause-place : goal.returns-else-i-eq0-clause-place
returns-else-i-eq0-clause-place c =
    starts_behind c.self.inside.bytes.now c.self.inside.ends.items c.args.self.now c.args.i c.index.result.now c.self.view_is c.requires c.if-i-eq0.false c.index.ensures

pub returns-else-i-eq0-clause-small : goal.returns-else-i-eq0-clause-small
returns-else-i-eq0-clause-small c =
    let file = c.self.inside.bytes.now in
    let ends = c.self.inside.ends.items in
    let place = starts_behind file ends c.args.self.now c.args.i c.index.result.now c.self.view_is c.requires c.if-i-eq0.false c.index.ensures in
    let within = starts_within file ends c.args.self.now c.args.i c.self.invariant.rise c.self.view_is c.requires in
    omega (arith, place, within, c.self.invariant.small)
