use Rattle.std.proofs.Common.{Bool, subst, sym}
use Rattle.mr_jobs.specs.Hits.{IsFirstPlace}
use Rattle.mr_jobs.proofs.HitLemmas.{first-folded}
use Rattle.mr_jobs.proofs.literal_search.find.Goals as goal

pub returns-then-fold-clause-place : goal.returns-then-fold-clause-place
returns-then-fold-clause-place c =
    subst (λ (fold : Bool). IsFirstPlace (record { text = c.args.text.now; literal = c.args.literal.now; fold = fold }) c.find_folded.result) (sym c.if-fold.true)
    (first-folded c.args.text.now c.args.literal.now c.find_folded.result c.find_folded.ensures)

pub returns-else-fold-clause-place : goal.returns-else-fold-clause-place
returns-else-fold-clause-place c =
    subst (λ (fold : Bool). IsFirstPlace (record { text = c.args.text.now; literal = c.args.literal.now; fold = fold }) c.find_exactly.result) (sym c.if-fold.false)
    c.find_exactly.ensures.place
