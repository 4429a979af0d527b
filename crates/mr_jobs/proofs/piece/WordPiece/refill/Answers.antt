use Rattle.std.proofs.Common.{◌≡◌, ◌+◌, ◌-◌, ◌∙◌, ℕ, List, Bool, ap, sym, subst, arith, refl}
use Rattle.mr_jobs.specs.Emissions.{words_at}
use Rattle.mr_jobs.specs.Pieces.{IsSeam, PieceSpec}
use Rattle.mr_jobs.proofs.PieceLemmas.{line-of-part, seam-of-part}
use Rattle.mr_jobs.proofs.piece.WordPiece.refill.Goals as goal

pub find-requires-clause-last : goal.find-requires-clause-last
find-requires-clause-last c =
    let text : List ℕ = c.args.text.now in
    let start : ℕ = c.args.start in
    let bytes : ℕ = c.args.end - c.args.start in
    let reach : ℕ = c.min-reach.result in
    let folds : Bool = c.args.self.now.folds in
    let seam : IsSeam text (start + bytes) =
    subst (IsSeam text) (let e : c.args.end ≡ start + bytes = omega (arith, c.requires.order) in e) (c.if-not-is_seam.ensures refl) in
    subst (λ (t : List ℕ). IsSeam t bytes) (sym c.in_ok-fill.ensures.text)
    (seam-of-part folds text start reach bytes (omega arith) seam)

pub returns-clause-line : goal.returns-clause-line
returns-clause-line c = λ value.
    let text : List ℕ = c.args.text.now in
    let start : ℕ = c.args.start in
    let bytes : ℕ = c.args.end - c.args.start in
    let reach : ℕ = c.min-reach.result in
    let folds : Bool = c.args.self.now.folds in
    let piece : List ℕ = c.fill-2.new.self.text in
    ap (λ (s : PieceSpec). words_at value s.text s.line) c.find.ensures
    ∙ line-of-part folds text piece start reach 0 bytes start c.args.end value c.in_ok-fill.ensures.text (omega arith) (omega arith) (omega arith)
    (omega arith) (omega (arith, c.requires.order))
