use Rattle.std.proofs.Common.{ap, sym, ◌∙◌, List, ℕ, inl, refl, arith, Some}
use Rattle.mr_bytes.specs.declared.Name.{Name}
use Rattle.mr_bytes.specs.Pairs.{Triple}
use Rattle.mr_jobs.specs.Emissions.{Emission}
use Rattle.mr_sequential.specs.Good.{named}
use Rattle.mr_index.specs.Building.{numbered}
use Rattle.mr_index.specs.Pairs.{pairs_seen}
use Rattle.mr_index.proofs.NumberedLemmas.{find-past, triple_for}
use Rattle.mr_index.proofs.part.Part.pair.Goals as goal

pub returns-then-split-self : goal.returns-then-split-self
returns-then-split-self c =
    let p = c.self.inside in
    sym (ap (λ (ts : List Triple). named ts c.args.name) c.self.view_is)
    ∙ find-past p.split p.tables.ends.items (pairs_seen p.tables.pairs) c.args.name (inl c.if-split-self.true)

pub returns-in-None : goal.returns-in-None
returns-in-None c =
    let n : Name = c.args.name in
    let tables = c.self.inside.tables in
    sym (ap (λ (ts : List Triple). named ts n) c.self.view_is)
    ∙ ap (λ (s : ℕ). named (numbered s 0 0 tables.ends.items (pairs_seen tables.pairs)) n) (sym c.if-split-self.false)
    ∙ c.in-None.ensures 0 n (omega arith) refl

pub get-requires-clause-within : goal.get-requires-clause-within
get-requires-clause-within c = (c.in-Some.ensures 0 c.args.name (omega arith) refl).0

pub returns-in-Some : goal.returns-in-Some
returns-in-Some c =
    let n : Name = c.args.name in
    let tables = c.self.inside.tables in
    sym (ap (λ (ts : List Triple). named ts n) c.self.view_is)
    ∙ ap (λ (s : ℕ). named (numbered s 0 0 tables.ends.items (pairs_seen tables.pairs)) n) (sym c.if-split-self.false)
    ∙ (c.in-Some.ensures 0 n (omega arith) refl).1
    ∙ ap (λ (e : Emission). Some (triple_for n e)) (sym c.get.ensures)
