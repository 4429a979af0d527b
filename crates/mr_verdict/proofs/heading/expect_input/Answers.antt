use Rattle.std.proofs.Common.{List, [], ◌∷◌, ℕ, length, map, subst}
use Rattle.mr_certform.specs.declared.grammar_state.Item.{Item}
use Rattle.mr_certform.specs.declared.grammar_state.Item.TheVariants.{Files, FileLength}
use Rattle.mr_verdict.specs.declared.answers.No.TheVariants.{OtherInput}
use Rattle.mr_verdict.proofs.ItemLemmas.{Came, met_behind_came}
use Rattle.mr_verdict.proofs.heading.expect_input.Goals as goal

pub returns-clause-met : goal.returns-clause-met
returns-clause-met g c =
    let gives = g.I.ItemSource.gives in
    let behind : List Item = map (λ (f : List ℕ). FileLength (length f)) c.args.input.now in
    met_behind_came (gives c.args.items.now) (gives c.expect.new.items) (gives c.expect_lengths.new.items) (Files (length c.args.input.now) ∷ []) behind OtherInput c.expect_lengths.result
    (subst (λ n. Came (gives c.args.items.now) (gives c.expect.new.items) (Files n ∷ []) OtherInput) c.files.ensures.count c.in_ok-expect.ensures.met) c.expect_lengths.ensures.met
