use Rattle.std.specs.Prelude.{slice_range}
use Rattle.mr_bytes.specs.declared.Value.TheVariants.{One}
use Rattle.std.proofs.Common.{get_or, [], ap, sym, ◌∙◌, ◌+◌, List, ℕ, Some, refl}
use Rattle.mr_bytes.specs.declared.Name.{Name}
use Rattle.mr_jobs.specs.Emissions.{Emission}
use Rattle.mr_sequential.specs.Good.{named}
use Rattle.mr_index.specs.Pairs.{pairs_seen}
use Rattle.mr_index.specs.Windows.{PieceView, name_in}
use Rattle.mr_index.proofs.piece.Piece.key.Goals as goal

pub returns-in-None : goal.returns-in-None
returns-in-None c =
    let w = c.self.inside.window in
    let n : Name = record { split = w.split; rec = w.from + c.args.number; place = c.args.place } in
    sym (ap (λ (v : PieceView). named v.triples (name_in v c.args.number c.args.place)) c.self.view_is) ∙ c.in-None.ensures w.from n refl refl

pub key_at-requires-clause-within : goal.key_at-requires-clause-within
key_at-requires-clause-within c =
    let w = c.self.inside.window in
    (c.in-Some.ensures w.from (record { split = w.split; rec = w.from + c.args.number; place = c.args.place }) refl refl).0

pub returns-in-Some : goal.returns-in-Some
returns-in-Some c =
    let w = c.self.inside.window in
    let number : ℕ = c.args.number in
    let n : Name = record { split = w.split; rec = w.from + number; place = c.args.place } in
    let e : Emission = get_or (pairs_seen c.self.inside.tables.pairs) c.in-Some.at ([], One) in
    let key : List ℕ = slice_range c.key_at.result.0.now c.key_at.result.1 c.key_at.result.2 in
    let found = sym (ap (λ (v : PieceView). named v.triples (name_in v number c.args.place)) c.self.view_is)
    ∙ (c.in-Some.ensures w.from n refl refl).1
    ∙ ap (λ (k : List ℕ). Some (record { key = k; value = e.1; name = n })) (sym c.key_at.ensures.key)
    ∙ ap (λ (v : PieceView). Some (record { key = key; value = e.1; name = name_in v number c.args.place })) c.self.view_is in
    record { value = e.1; found = found }
