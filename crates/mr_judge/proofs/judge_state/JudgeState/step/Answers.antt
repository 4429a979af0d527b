use Rattle.std.proofs.Common.{◌≡◌, ◌-◌, ap, sym, ◌∙◌}
use Rattle.mr_input.specs.Files.{nth_file}
use Rattle.mr_certform.specs.declared.grammar_state.Item.TheVariants.{Groups, Entry}
use Rattle.mr_verdict.specs.Verdict.{end_tests, entry_tests, after_entry}
use Rattle.mr_judge.specs.Rows.{row_subject, brought, item_tests, item_after, row_tests, row_after}
use Rattle.mr_judge.proofs.OutputLemmas.{tested_as, opened_at}
use Rattle.mr_judge.proofs.judge_state.JudgeState.step.Goals as goal

pub returns-in-Groups-clause-tested : goal.returns-in-Groups-clause-tested
returns-in-Groups-clause-tested g c =
    let gives = g.O.Outputs.gives in
    let st = c.args.self.now in
    let r = c.args.request.now in
    let row = c.args.row.now in
    let item : Groups c.from.result ≡ row.item = ap Groups c.from.ensures ∙ sym c.in-Groups.is in
    tested_as (gives c.args.outputs.now) (gives c.open_partition.new.outputs) st c.open_partition.new.self (λ outs. end_tests (nth_file outs st.next) st.next c.from.result 0) (λ outs. row_tests (row_subject r outs) st row) (λ outs. opened_at st c.from.result) (λ outs. row_after (row_subject r outs) st row) c.open_partition.result (λ outs. ap (item_tests (row_subject r outs) st row) item) (λ outs. ap (item_after (row_subject r outs) st row) item) c.open_partition.ensures.tested

pub returns-in-Entry-clause-tested : goal.returns-in-Entry-clause-tested
returns-in-Entry-clause-tested g c =
    let gives = g.O.Outputs.gives in
    let st = c.args.self.now in
    let r = c.args.request.now in
    let row = c.args.row.now in
    let name = c.in-Entry.name in
    let item : Entry name ≡ row.item = sym c.in-Entry.is in
    tested_as (gives c.args.outputs.now) (gives c.entry.new.outputs) st c.entry.new.self (λ outs. entry_tests (row_subject r outs) (st.next - 1) st name (brought name row)) (λ outs. row_tests (row_subject r outs) st row) (λ outs. after_entry (row_subject r outs) st (brought name row)) (λ outs. row_after (row_subject r outs) st row) c.entry.result (λ outs. ap (item_tests (row_subject r outs) st row) item) (λ outs. ap (item_after (row_subject r outs) st row) item) c.entry.ensures.tested
