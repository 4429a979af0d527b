use Rattle.std.proofs.Common.{arith, ap, subst, sym, ◌∙◌, ◌<◌, ℕ, List, length}
use Rattle.mr_bytes.specs.declared.Span.{Span}
use Rattle.mr_splits.specs.declared.split_table.Row.{Row}
use Rattle.mr_splits.specs.Named.{of_split}
use Rattle.mr_splits.specs.Cut.{Cut, records_of, nth_named}
use Rattle.mr_splits.specs.Table.{nth_span, spans_of}
use Rattle.mr_splits.proofs.ReadLemmas.{found-in, shown}
use Rattle.mr_splits.proofs.NameLemmas.{named-at}
use Rattle.mr_splits.proofs.plan.Plan.locate.Goals as goal

pub span-span-requires-clause-record : goal.span-span-requires-clause-record
span-span-requires-clause-record c =
    let p = c.self.inside in
    let i = c.self.invariant in
    let f = found-in p.size p.input.now c.args.self.now p.table.ends.items p.table.rows.items c.args.s c.args.r c.index-row.result.now
    c.self.view_is i.rows i.stands i.all c.requires.split c.requires.«record» c.index-row.ensures in
    f.below

pub span-span-requires-clause-range : goal.span-span-requires-clause-range
span-span-requires-clause-range c =
    let p = c.self.inside in
    let i = c.self.invariant in
    let f = found-in p.size p.input.now c.args.self.now p.table.ends.items p.table.rows.items c.args.s c.args.r c.index-row.result.now
    c.self.view_is i.rows i.stands i.all c.requires.split c.requires.«record» c.index-row.ensures in
    f.range

pub span-span-requires-clause-small : goal.span-span-requires-clause-small
span-span-requires-clause-small c =
    let p = c.self.inside in
    let i = c.self.invariant in
    let f = found-in p.size p.input.now c.args.self.now p.table.ends.items p.table.rows.items c.args.s c.args.r c.index-row.result.now
    c.self.view_is i.rows i.stands i.all c.requires.split c.requires.«record» c.index-row.ensures in
    λ i d few. omega (arith, (f.all_within i d few).1, ap length c.file-bytes.ensures.bytes, c.file-bytes.ensures.small)

pub slice_bounds-result-count : goal.slice_bounds-result-count
slice_bounds-result-count c =
    let p = c.self.inside in
    let i = c.self.invariant in
    let f = found-in p.size p.input.now c.args.self.now p.table.ends.items p.table.rows.items c.args.s c.args.r c.index-row.result.now
    c.self.view_is i.rows i.stands i.all c.requires.split c.requires.«record» c.index-row.ensures in
    omega (arith, f.within.0, ap (λ (s : Span). s.start) c.span-span.ensures, ap (λ (s : Span). s.end) c.span-span.ensures)

pub slice_bounds-result-start : goal.slice_bounds-result-start
slice_bounds-result-start c =
    let p = c.self.inside in
    let i = c.self.invariant in
    let f = found-in p.size p.input.now c.args.self.now p.table.ends.items p.table.rows.items c.args.s c.args.r c.index-row.result.now
    c.self.view_is i.rows i.stands i.all c.requires.split c.requires.«record» c.index-row.ensures in
    omega (arith, f.within.0, ap (λ (s : Span). s.start) c.span-span.ensures, ap (λ (s : Span). s.end) c.span-span.ensures)

pub slice_bounds-result-end : goal.slice_bounds-result-end
slice_bounds-result-end c =
    let p = c.self.inside in
    let i = c.self.invariant in
    let f = found-in p.size p.input.now c.args.self.now p.table.ends.items p.table.rows.items c.args.s c.args.r c.index-row.result.now
    c.self.view_is i.rows i.stands i.all c.requires.split c.requires.«record» c.index-row.ensures in
    omega (arith, f.within.1, ap length c.file-bytes.ensures.bytes, ap (λ (s : Span). s.end) c.span-span.ensures)

pub returns-clause-record : goal.returns-clause-record
returns-clause-record c =
    let p = c.self.inside in
    let i = c.self.invariant in
    let f = found-in p.size p.input.now c.args.self.now p.table.ends.items p.table.rows.items c.args.s c.args.r c.index-row.result.now
    c.self.view_is i.rows i.stands i.all c.requires.split c.requires.«record» c.index-row.ensures in
    let row : Row = c.index-row.result.now in
    sym (ap (λ (v : Cut). nth_named (of_split c.args.s (records_of v)) c.args.r) c.self.view_is) ∙ f.is
    ∙ ap (λ (bs : List ℕ). shown c.args.s c.args.r row.place.file bs (nth_span (spans_of p.table.ends.items row) c.args.r)) (sym c.file-bytes.ensures.bytes)
    ∙ ap (shown c.args.s c.args.r row.place.file c.file-bytes.result.now) (sym c.span-span.ensures)

pub returns-clause-named : goal.returns-clause-named
returns-clause-named c =
    named-at c.args.self.now.size c.args.self.now.files c.args.s c.args.r (subst (λ (v : Cut). 0 < v.size) c.self.view_is c.self.invariant.some)
    c.requires.«record»
