use Rattle.std.proofs.Common.{◌≡◌, ◌-◌, ◌≤◌, ℕ, [], Some, refl, ap, sym, ◌∙◌, arith}
use Rattle.std.specs.Prelude.{Ok}
use Rattle.std.specs.Option.{option_map}
use Rattle.mr_bytes.specs.Pairs.{Triple}
use Rattle.mr_verdict.specs.Verdict.{Reached, group_tests, behind_group}
use Rattle.mr_verdict.specs.Steps.{Ground, subject_with}
use Rattle.mr_judge.specs.Rows.{brought}
use Rattle.mr_judge.proofs.Faults.{group_later, behind_later}
use Rattle.mr_judge.proofs.OutputLemmas.{onward_same, tested_as, entry_told}
use Rattle.mr_judge.proofs.judge_state.JudgeState.entry.Goals as goal

pub returns-clause-tested : goal.returns-clause-tested
returns-clause-tested g c =
    let gives = g.O.Outputs.gives in
    let b : Ground = record { request = c.args.request.now; triples = [] } in
    let st : Reached = c.args.self.now in
    let mid : Reached = c.order_entry.new.self in
    let ordered = c.in_ok-order_entry.ensures in
    let name = c.args.name in
    let pair : Triple = record { key = c.in-Some.key.now; value = c.in-Some.value; name = name } in
    let row = c.args.row.now in
    let is : brought name row ≡ Some pair = ap (option_map (λ p. record { key = p.0.now; value = p.1; name = name })) c.in-Some.is in
    let left : 1 ≤ mid.entries = omega (arith, c.if-self-eq0.false, ap (λ (w : Reached). w.entries) c.self-2.view_is) in
    entry_told b (gives c.args.outputs.now) (gives c.args.outputs.now) st mid mid (st.next - 1) name pair (brought name row) (Ok tt) is ordered.0 ordered.1
    (onward_same (gives c.args.outputs.now) mid mid (λ outs. (group_tests (subject_with b outs) (st.next - 1) mid mid.entries ≡ []) × (mid ≡ behind_group (subject_with b outs) mid mid.entries)) refl
    (λ outs. (group_later (subject_with b outs) (st.next - 1) mid mid.entries left, sym (behind_later (subject_with b outs) mid mid.entries left))))

pub returns-then-self-eq0-clause-tested : goal.returns-then-self-eq0-clause-tested
returns-then-self-eq0-clause-tested g c =
    let gives = g.O.Outputs.gives in
    let b : Ground = record { request = c.args.request.now; triples = [] } in
    let st : Reached = c.args.self.now in
    let mid : Reached = c.order_entry.new.self in
    let ordered = c.in_ok-order_entry.ensures in
    let name = c.args.name in
    let pair : Triple = record { key = c.in-Some.key.now; value = c.in-Some.value; name = name } in
    let row = c.args.row.now in
    let is : brought name row ≡ Some pair = ap (option_map (λ p. record { key = p.0.now; value = p.1; name = name })) c.in-Some.is in
    let none : 0 ≡ mid.entries = sym c.if-self-eq0.true ∙ ap (λ (w : Reached). w.entries) c.self-2.view_is in
    let here : c.partition-partition.result ≡ st.next - 1 = c.partition-partition.ensures in
    entry_told b (gives c.args.outputs.now) (gives c.end_group.new.outputs) st mid c.end_group.new.self (st.next - 1) name pair (brought name row) c.end_group.result is ordered.0 ordered.1
    (tested_as (gives c.args.outputs.now) (gives c.end_group.new.outputs) mid c.end_group.new.self (λ outs. group_tests (subject_with b outs) c.partition-partition.result mid 0) (λ outs. group_tests (subject_with b outs) (st.next - 1) mid mid.entries)
    (λ outs. behind_group (subject_with b outs) mid 0) (λ outs. behind_group (subject_with b outs) mid mid.entries) c.end_group.result
    (λ outs. ap (λ (q : ℕ). group_tests (subject_with b outs) q mid 0) here ∙ ap (group_tests (subject_with b outs) (st.next - 1) mid) none) (λ outs. ap (behind_group (subject_with b outs) mid) none) c.end_group.ensures.tested)
