use Rattle.std.proofs.Common.{◌≡◌, ◌-◌, ℕ, [], ap, ◌∙◌}
use Rattle.std.proofs.lemmas.Result.{err_from_is_err_and}
use Rattle.mr_reduce.specs.Text.{text_of}
use Rattle.mr_verdict.specs.Verdict.{Reached, behind_group}
use Rattle.mr_verdict.specs.Steps.{Ground, subject_with}
use Rattle.mr_judge.proofs.OutputLemmas.{text_fault, group_fault, group_fine, closed_at}
use Rattle.mr_judge.proofs.judge_state.JudgeState.end_group.Goals as goal

pub returns-in_err-test_group-clause-tested : goal.returns-in_err-test_group-clause-tested
returns-in_err-test_group-clause-tested g c =
    let gives = g.O.Outputs.gives in
    let st = c.args.self.now in
    let b : Ground = record { request = c.args.request.now; triples = [] } in
    let p = err_from_is_err_and c.from_residual.result c.from_residual.ensures.1 in
    let text : text_of b.request.job c.self.inside.key.now c.self.inside.values ≡ text_of b.request.job st.key st.values = ap (λ (w : Reached). text_of b.request.job w.key w.values) c.self.view_is in
    rw (p.1, p.2) (text_fault b (gives c.args.outputs.now) (gives c.test_group.new.outputs) st st c.args.p (g.O.Outputs.place c.args.outputs.now) (text_of b.request.job c.self.inside.key.now c.self.inside.values) (λ outs. behind_group (subject_with b outs) st 0) c.in_err-test_group.field-0.0 c.requires.here c.requires.place text c.in_err-test_group.ensures.told)

pub returns-in_err-test_end-clause-tested : goal.returns-in_err-test_end-clause-tested
returns-in_err-test_end-clause-tested g c =
    let gives = g.O.Outputs.gives in
    let st = c.args.self.now in
    let b : Ground = record { request = c.args.request.now; triples = [] } in
    let p = err_from_is_err_and c.from_residual-in_err-test_end.result c.from_residual-in_err-test_end.ensures.1 in
    let text : text_of b.request.job c.self.inside.key.now c.self.inside.values ≡ text_of b.request.job st.key st.values = ap (λ (w : Reached). text_of b.request.job w.key w.values) c.self.view_is in
    rw (p.1, p.2) (group_fault b (gives c.args.outputs.now) (gives c.test_group.new.outputs) (gives c.test_end.new.outputs) st st c.args.p (g.O.Outputs.place c.args.outputs.now) (g.O.Outputs.place c.test_group.new.outputs) c.saturating_sub.result (text_of b.request.job c.self.inside.key.now c.self.inside.values) (λ outs. behind_group (subject_with b outs) st 0) c.in_ok-test_group.field-0 c.in_err-test_end.field-0.0 c.requires.here c.requires.place text c.in_ok-test_group.ensures.told c.in_ok-test_group.ensures.place (c.saturating_sub.ensures ∙ ap (λ (w : Reached). w.groups - 1) c.self.view_is) c.in_err-test_end.ensures.told)

pub returns-clause-tested : goal.returns-clause-tested
returns-clause-tested g c =
    let gives = g.O.Outputs.gives in
    let st = c.args.self.now in
    let b : Ground = record { request = c.args.request.now; triples = [] } in
    let text : text_of b.request.job c.self.inside.key.now c.self.inside.values ≡ text_of b.request.job st.key st.values = ap (λ (w : Reached). text_of b.request.job w.key w.values) c.self.view_is in
    group_fine b (gives c.args.outputs.now) (gives c.test_group.new.outputs) (gives c.test_end.new.outputs) st _ c.args.p (g.O.Outputs.place c.args.outputs.now) c.place-self-inside.result c.saturating_sub.result (text_of b.request.job c.self.inside.key.now c.self.inside.values) c.in_ok-test_group.field-0 c.in_ok-test_end.field-0 c.requires.here c.requires.place text c.in_ok-test_group.ensures.told (c.place-self-inside.ensures ∙ (c.in_ok-test_end.ensures.place ∙ c.in_ok-test_group.ensures.place)) (c.saturating_sub.ensures ∙ ap (λ (w : Reached). w.groups - 1) c.self.view_is) c.in_ok-test_end.ensures.told (ap (λ (w : Reached). record (closed_at w c.place-self-inside.result) { groups = c.saturating_sub-self-inside.result }) c.self.view_is
    ∙ ap (λ (n : ℕ). record (closed_at st c.place-self-inside.result) { groups = n }) (c.saturating_sub-self-inside.ensures ∙ ap (λ (w : Reached). w.groups - 1) c.self.view_is))
