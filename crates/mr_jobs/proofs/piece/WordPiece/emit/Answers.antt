use Rattle.std.proofs.Common.{◌≡◌, ◌-◌, ◌∙◌, All, List, ℕ, drop, subst, sym, ap}
use Rattle.std.proofs.lemmas.List.Elements.{All-take, All-drop}
use Rattle.mr_bytes.specs.Words.{word_spans}
use Rattle.mr_bytes.specs.declared.Span.{Span}
use Rattle.mr_jobs.specs.Pieces.{IsOf}
use Rattle.mr_jobs.proofs.PieceLemmas.{words-of}
use Rattle.mr_jobs.proofs.piece.WordPiece.emit.Goals as goal

pub some_words-requires-clause-words : goal.some_words-requires-clause-words
some_words-requires-clause-words c =
    let p = c.self.inside in
    let text : List ℕ = c.as_slice.result.now in
    let words : List Span = c.deref.result.now in
    let is : words ≡ word_spans text = c.deref.ensures.value ∙ c.self.invariant.words c.if-self.true ∙ ap word_spans (sym c.as_slice.ensures.value) in
    let all : All (IsOf text) words = subst (λ (ws : List Span). All (IsOf text) ws) (sym is) (words-of text) in
    All-take (IsOf text) (p.last - p.first) (drop p.first words) (All-drop (IsOf text) p.first words all)
