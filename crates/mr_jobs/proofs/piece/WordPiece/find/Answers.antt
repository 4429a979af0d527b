use Rattle.std.proofs.Common.{◌≡◌, ◌≤◌, ◌∙◌, ℕ, true, List, ap, sym, subst, length}
use Rattle.mr_bytes.specs.Words.{word_spans, word_spans_from}
use Rattle.mr_bytes.specs.declared.Span.{Span}
use Rattle.std.specs.Prelude.{slice_range}
use Rattle.mr_jobs.specs.Pieces.{IsCut, IsSeam, PieceSpec, words_in}
use Rattle.mr_jobs.proofs.PieceLemmas.{line-words}
use Rattle.mr_jobs.proofs.piece.WordPiece.find.Goals as goal
use Rattle.mr_jobs.proofs.piece.WordPiece.find.Goals.{then-is_cut, else-is_cut}

pub returns : goal.returns
returns c =
    let p = c.self.inside in
    let text : List ℕ = p.text.items in
    let start : ℕ = c.args.start in
    let end : ℕ = c.args.end in
    let first : ℕ = c.if-is_cut.first in
    let last : ℕ = c.go_on-last.result in
    let same : c.args.self.now.text ≡ text = sym (ap (λ (s : PieceSpec). s.text) c.self.view_is) in
    let listed : p.listed ≡ true = ap (λ (s : PieceSpec). s.listed) c.self.view_is ∙ c.requires.listed in
    let words : c.as_slice-words.result.now ≡ word_spans text = c.as_slice-words.ensures.value ∙ c.self.invariant.words listed in
    let cut_first : IsCut c.as_slice-words.result.now start first =
    elim c.if-is_cut.branch [
      | then-is_cut w ↦ subst (IsCut c.as_slice-words.result.now start) (sym w.first-is) (c.is_cut.ensures w.if-is_cut.true)
      | else-is_cut w ↦ subst (IsCut c.as_slice-words.result.now start) (sym w.first-is) w.search-first.ensures
    ] in
    let line : words_in p.listed text first last ≡ word_spans_from start (slice_range text start end) =
    ap (λ b. words_in b text first last) listed
    ∙ line-words text start end first last c.requires.order (subst (λ (t : List ℕ). end ≤ length t) same c.requires.within)
    (subst (λ (t : List ℕ). IsSeam t start) same c.requires.first) (subst (λ (t : List ℕ). IsSeam t end) same c.requires.last)
    (subst (λ (ws : List Span). IsCut ws start first) words cut_first)
    (subst (λ (ws : List Span). IsCut ws end last) words c.go_on-last.ensures.cut) in
    subst (λ (s : PieceSpec). record { folds = p.folds; file = p.file; from = p.from; text = text; listed = p.listed; line = words_in p.listed text first last }
    ≡ record { folds = s.folds; file = s.file; from = s.from; text = s.text; listed = s.listed; line = word_spans_from start (slice_range s.text start end) })
    c.self.view_is
    (ap (λ (l : List Span). record { folds = p.folds; file = p.file; from = p.from; text = text; listed = p.listed; line = l }) line)
