use Rattle.std.proofs.Common.{◌≡◌, ◌-◌, ◌∙◌, ℕ, length, ap, arith}
use Rattle.mr_jobs.specs.Emissions.{words_at}
use Rattle.mr_jobs.specs.Pieces.{HasLine, IsPart, PieceSpec}
use Rattle.mr_jobs.proofs.PieceLemmas.{line-of-part}
use Rattle.mr_jobs.proofs.piece.WordPiece.ready.Goals as goal

pub returns-then-has-clause-line : goal.returns-then-has-clause-line
returns-then-has-clause-line c = λ value.
    let p : PieceSpec = c.args.self.now in
    let has : HasLine p c.args.file c.args.start c.args.end = c.has.ensures c.if-has.true in
    let part : IsPart c.args.text.now p = c.requires.part has.same in
    let from : ℕ = c.find.inside.from in
    let from_is : from ≡ p.from = ap (λ (s : PieceSpec). s.from) c.find.view_is in
    ap (λ (s : PieceSpec). words_at value s.text s.line) c.find-then-has.ensures
    ∙ line-of-part p.folds c.args.text.now p.text p.from (length p.text) (c.args.start - from) (c.args.end - from) c.args.start c.args.end value part.bytes part.within
    (omega (arith, c.requires.order, has.before)) (omega (arith, has.within, has.before, from_is))
    (omega (arith, has.before, from_is)) (omega (arith, has.before, c.requires.order, from_is))
