use Rattle.std.proofs.Common.{◌≡◌, ℕ, ◌+◌, ◌<◌, ◌∷◌, [], List, drop, length, map, ap, sym, arith, ◌∙◌}
use Rattle.std.proofs.lemmas.List.{drop_more}
use Rattle.std.proofs.lemmas.Result.{err_from_is_err_and}
use Rattle.mr_certform.specs.declared.grammar_state.Item.{Item}
use Rattle.mr_certform.specs.declared.grammar_state.Item.TheVariants.{FileLength}
use Rattle.mr_verdict.specs.declared.answers.No.TheVariants.{OtherInput}
use Rattle.mr_verdict.proofs.ItemLemmas.{leads_not}
use Rattle.mr_verdict.proofs.heading.expect_lengths.Goals as goal

pub returns-in_err-expect-clause-met : goal.returns-in_err-expect-clause-met
returns-in_err-expect-clause-met g c =
    let bs : List (List ℕ) = c.args.input.now in
    let i = c.loop-i.i in
    let gives = g.I.ItemSource.gives in
    let long : List ℕ → Item = λ f. FileLength (length f) in
    let within : i < length bs = omega (arith, c.loop-i-test.true, c.loop-i.auto.i-end, c.files-i-end.ensures.count) in
    let p = err_from_is_err_and c.from_residual.result c.from_residual.ensures.1 in
    let next : map long (drop i bs) ≡ FileLength c.len.result ∷ map long (drop (i + 1) bs) = ap (map long) (drop_more bs i [] within) ∙ ap (λ n. FileLength n ∷ map long (drop (i + 1) bs)) (sym c.len.ensures.bytes) in
    rw (p.1, p.2) (leads_not (gives c.args.items.now) (gives c.loop-i.items) (FileLength c.len.result) (map long (drop i bs)) (map long (drop (i + 1) bs)) (map long bs) OtherInput c.in_err-expect.field-0.0 next c.loop-i.invariant.leads c.in_err-expect.ensures.met)
