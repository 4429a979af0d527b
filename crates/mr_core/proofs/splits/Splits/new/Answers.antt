use Rattle.std.proofs.Common.{ℕ, List, [], ◌∷◌, ◌++◌, None, false, replicate, ap, ◌∙◌, arith}
use Rattle.std.proofs.lemmas.List.{replicate_more}
use Rattle.std.proofs.lemmas.Result.{IfOk-from_err}
use Rattle.mr_core.specs.declared.entries.Split.{Split}
use Rattle.mr_core.proofs.splits.Splits.new.Goals as goal

abbrev none : Split
none = record { skips = []; fixed = false; output = None }

pub loop-i-preserved : goal.loop-i-preserved
loop-i-preserved c =
    c.in_ok-push.ensures.items
    ∙ ap (λ (l : List Split). l ++ record { skips = c.none.result; fixed = false; output = None } ∷ []) c.loop-i.invariant
    ∙ ap (λ (k : List ℕ). replicate c.loop-i._i none ++ record { skips = k; fixed = false; output = None } ∷ []) c.none.ensures
    ∙ replicate_more c.loop-i._i none

pub returns-in_err-push : goal.returns-in_err-push
returns-in_err-push c = IfOk-from_err c.from_residual.result _ c.from_residual.ensures.0

pub returns : goal.returns
returns c = c.loop-i.invariant ∙ ap (λ (n : ℕ). replicate n none) (omega (arith, c.loop-i-test.false, c.loop-i.auto._i-end))
