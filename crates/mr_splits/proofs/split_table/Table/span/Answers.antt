use Rattle.std.proofs.Common.{arith, ◌<◌}
use Rattle.mr_splits.proofs.SpanLemmas.{later-span, before-small}
use Rattle.mr_splits.proofs.split_table.Table.span.Goals as goal

pub overflow_add-result : goal.overflow_add-result
overflow_add-result c =
    let some : 0 < c.args.r = omega (arith, c.if-r-eq0.false) in
    let small = before-small c.args.self.now.ends.items c.args.row c.args.r c.index.result.now some c.requires.«record» c.requires.range
    c.index.ensures c.requires.small in
    omega (arith, small)

pub returns : goal.returns
returns c =
    let some : 0 < c.args.r = omega (arith, c.if-r-eq0.false) in
    later-span c.args.self.now.ends.items c.args.row c.args.r c.index-end.result.now c.index.result.now some c.requires.«record» c.requires.range
    c.index-end.ensures c.index.ensures
