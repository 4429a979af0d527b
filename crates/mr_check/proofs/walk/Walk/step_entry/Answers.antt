use Rattle.std.proofs.Common.{◌≡◌, ◌+◌, ◌-◌, ◌++◌, ◌∷◌, [], sym, ◌∙◌, subst}
use Rattle.mr_bytes.specs.Pairs.{Triple}
use Rattle.mr_verdict.specs.Verdict.{Reached}
use Rattle.mr_judge.specs.Rows.{row_subject}
use Rattle.mr_judge.proofs.Faults.{within_after}
use Rattle.mr_check.specs.Walk.{Stands, known}
use Rattle.mr_check.specs.declared.walk.Walk.{Walk}
use Rattle.mr_check.proofs.walk.Walk.step_entry.Goals as goal

pub returns-in-Ok-true-clause-stands : goal.returns-in-Ok-true-clause-stands
returns-in-Ok-true-clause-stands c h =
    let w : Walk = c.args.self.now in
    let st : Reached = w.judging in
    let within = c.is_within_group.ensures c.if-is_within_group.true in
    let s = row_subject c.args.given.now.request.now c.args.given.now.outputs.now in
    let t : Triple = record { key = st.key; value = c.args.value; name = c.args.name } in
    let next : Reached = record st { entry = st.entry + 1; entries = st.entries - 1; before = t.name; values = st.values ++ t.value ∷ []; named = st.named + 1 } in
    let is : c.take_within_group.new.self ≡ next = (c.in-Ok-true.ensures c.in-Ok-true.field-0-test s).1 ∙ within_after s st t within.0 within.1 in
    let stands = c.requires.stands in
    subst (λ (v : Reached). Stands (known c.args.given.now) (record w { judging = v })) (sym is)
    (record {
      left = record { rest_is = stands.left.rest_is; later_is = stands.left.later_is };
      place = stands.place;
      told = stands.told;
      key = λ some. stands.key within.0;
    })
