use Rattle.std.proofs.Common.{arith, ap, subst, sym, ◌∙◌, ◌≡◌, ◌<◌, ◌+◌, ℕ, length}
use Rattle.mr_input.specs.Files.{split_total}
use Rattle.mr_splits.specs.declared.split_table.Row.{Row}
use Rattle.mr_splits.specs.Named.{NamedRecord, of_split}
use Rattle.mr_splits.specs.Laws.{joined_splits}
use Rattle.mr_splits.specs.Cut.{Cut, records_of, nth_named}
use Rattle.mr_splits.proofs.ReadLemmas.{found-in, first-is, number-at, number-within}
use Rattle.mr_splits.proofs.NameLemmas.{name-at, one-name}
use Rattle.mr_splits.proofs.plan.Plan.record_index.Goals as goal

pub overflow_add-result : goal.overflow_add-result
overflow_add-result c =
    let p = c.self.inside in
    let i = c.self.invariant in
    let f = found-in p.size p.input.now c.args.self.now p.table.ends.items p.table.rows.items c.args.s c.args.r c.index.result.now
    c.self.view_is i.rows i.stands i.all c.requires.split c.requires.«record» c.index.ensures in
    omega (arith, f.among, p.table.ends.ok.0, p.table.ends.small)

pub returns : goal.returns
returns c =
    let p = c.self.inside in
    let v = c.self.view_is in
    let all : ℕ = split_total p.size p.input.now in
    let same : all ≡ split_total c.args.self.now.size c.args.self.now.files = ap (λ (v : Cut). split_total v.size v.files) v in
    let h : c.args.s < length p.table.rows.items = omega (arith, c.requires.split, c.self.invariant.rows, same) in
    let first : c.index.result.now.first ≡ length (joined_splits 0 c.args.s (records_of c.args.self.now)) =
    ap (λ (r : Row). r.first) c.index.ensures
    ∙ first-is p.size p.input.now p.table.ends.items p.table.rows.items c.args.s c.index.result.now c.self.invariant.stands c.self.invariant.all h
    ∙ ap (λ (v : Cut). length (joined_splits 0 c.args.s (records_of v))) v in
    let some : 0 < c.args.self.now.size = subst (λ (v : Cut). 0 < v.size) v c.self.invariant.some in
    let within : c.index.result.now.first + c.args.r < length (records_of c.args.self.now) =
    omega (arith, first, number-within c.args.self.now.size c.args.self.now.files c.args.s c.args.r some c.requires.split c.requires.«record») in
    let at : nth_named (records_of c.args.self.now) (c.index.result.now.first + c.args.r) ≡ nth_named (of_split c.args.s (records_of c.args.self.now)) c.args.r =
    ap (λ (n : ℕ). nth_named (records_of c.args.self.now) (n + c.args.r)) first
    ∙ number-at c.args.self.now.size c.args.self.now.files c.args.s c.args.r some c.requires.split c.requires.«record» in
    let name : (nth_named (of_split c.args.s (records_of c.args.self.now)) c.args.r).name ≡ record { split = c.args.s; rec = c.args.r } =
    name-at c.args.self.now.size c.args.self.now.files c.args.s c.args.r some c.requires.«record» in
    record {
      number = ap (λ (n : ℕ). n + c.args.r) first;
      at = at;
      name = ap (λ (r : NamedRecord). r.name) at ∙ name;
      only = λ i lt e. one-name c.args.self.now.size c.args.self.now.files i (c.index.result.now.first + c.args.r) some lt within (e ∙ sym (ap (λ (r : NamedRecord). r.name) at ∙ name));
      within = within;
    }
