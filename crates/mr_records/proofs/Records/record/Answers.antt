use Rattle.std.proofs.Common.{sym, arith}
use Rattle.mr_records.proofs.EndLemmas.{enough_ends, stands_within}
use Rattle.mr_records.proofs.Records.record.Goals as goal

pub index-requires : goal.index-requires
index-requires c =
    let ends = c.self.inside.ends in
    omega (arith, enough_ends c.self.inside.bytes.now ends.items c.args.self.now c.args.i c.self.view_is c.requires, ends.ok.0)

pub slice_bounds-result-count : goal.slice_bounds-result-count
slice_bounds-result-count c =
    let stands = stands_within c.self.inside.bytes.now c.self.inside.ends.items c.args.self.now c.args.i c.start.result c.index.result.now c.self.invariant.rise c.self.view_is c.requires c.start.ensures.place c.index.ensures in
    stands.0

pub slice_bounds-result-start : goal.slice_bounds-result-start
slice_bounds-result-start c =
    let stands = stands_within c.self.inside.bytes.now c.self.inside.ends.items c.args.self.now c.args.i c.start.result c.index.result.now c.self.invariant.rise c.self.view_is c.requires c.start.ensures.place c.index.ensures in
    stands.0

pub slice_bounds-result-end : goal.slice_bounds-result-end
slice_bounds-result-end c =
    let stands = stands_within c.self.inside.bytes.now c.self.inside.ends.items c.args.self.now c.args.i c.start.result c.index.result.now c.self.invariant.rise c.self.view_is c.requires c.start.ensures.place c.index.ensures in
    stands.1

pub returns-clause-bytes : goal.returns-clause-bytes
returns-clause-bytes c =
    let stands = stands_within c.self.inside.bytes.now c.self.inside.ends.items c.args.self.now c.args.i c.start.result c.index.result.now c.self.invariant.rise c.self.view_is c.requires c.start.ensures.place c.index.ensures in
    sym stands.2
