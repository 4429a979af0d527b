use Rattle.std.proofs.Common.{◌∙◌, [], ℕ, List, false, ap}
use Rattle.mr_bytes.specs.Words.{word_spans}
use Rattle.mr_bytes.proofs.WordLemmas.{word_spans_from-nil}
use Rattle.mr_jobs.proofs.piece.WordPiece.new.Goals as goal

pub returns : goal.returns
returns c =
    ap (λ (text : List ℕ). record { folds = c.args.folds; file = 0; from = 0; text = text; listed = false; line = word_spans text }) c.new.ensures.items
    ∙ ap (λ l. record { folds = c.args.folds; file = 0; from = 0; text = []; listed = false; line = l }) (word_spans_from-nil 0)
