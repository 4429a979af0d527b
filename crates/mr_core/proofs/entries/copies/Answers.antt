use Rattle.std.proofs.Common.{ℕ, [], ◌∷◌, ◌++◌, replicate, ap, ◌∙◌, arith}
use Rattle.std.proofs.lemmas.List.{replicate_more}
use Rattle.std.proofs.lemmas.Result.{IfOk-from_err}
use Rattle.mr_core.proofs.entries.copies.Goals as goal

pub loop-i-preserved : goal.loop-i-preserved
loop-i-preserved g c =
    c.in_ok-push.ensures.items
    ∙ ap (λ l. l ++ c.args.value ∷ []) c.loop-i.invariant
    ∙ replicate_more c.loop-i._i c.args.value

pub returns-in_err-push : goal.returns-in_err-push
returns-in_err-push g c = IfOk-from_err c.from_residual.result _ c.from_residual.ensures.0

pub returns : goal.returns
returns g c = c.loop-i.invariant ∙ ap (λ (n : ℕ). replicate n c.args.value) (omega (arith, c.loop-i-test.false, c.loop-i.auto._i-end))
