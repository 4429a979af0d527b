use Rattle.std.proofs.Common.{ap, sym, ◌∙◌, subst}
use Rattle.mr_core.specs.Master.{State, fetch}
use Rattle.mr_core.specs.Index.{Issued, IsTabled}
use Rattle.mr_core.proofs.Lookups.{found}
use Rattle.mr_core.proofs.Outcomes.{fetch_region}
use Rattle.mr_core.proofs.Tabled.{tabled_fetch}
use Rattle.mr_core.proofs.tables.MasterState.fetch.Goals as goal

pub invariant_of-self : goal.invariant_of-self
invariant_of-self c =
    let st : State = record { lost = c.self.inside.lost.items; splits = c.self.inside.splits; committed = c.self.inside.committed; attempts = c.self.inside.attempts.items; failures = c.self.inside.failures.items; end = c.self.inside.end } in
    subst (λ (w : Issued). IsTabled (record st { attempts = w.items }) w c.self.inside.next_map c.self.inside.next_part) (sym c.note_fetch.ensures) (tabled_fetch st c.self.inside.attempts c.self.inside.next_map c.self.inside.next_part c.self.invariant c.args.attempt c.args.map c.in-Some-output.output)

pub returns : goal.returns
returns c sh =
    let st : State = record { lost = c.self.inside.lost.items; splits = c.self.inside.splits; committed = c.self.inside.committed; attempts = c.self.inside.attempts.items; failures = c.self.inside.failures.items; end = c.self.inside.end } in
    let here = found c.as_slice.result.now c.args.self.now.splits c.args.map c.in-Some-get.split.now (c.as_slice.ensures ∙ ap (λ (v : State). v.splits) c.self.view_is) c.in-Some-get.ensures.lookup.3.0 c.in-Some-get.ensures.lookup.1 in
    let new = ap (λ (w : Issued). let v : State = record st { attempts = w.items } in v) c.note_fetch.ensures ∙ ap (fetch c.args.attempt c.args.map c.in-Some-output.output) c.self.view_is in
    fetch_region c.args.self.now c.args.attempt sh c.args.map c.in-Reduce.field-0 c.in-Some-get.split.now (c.in-Some-output.output, c.in-Some-output.field-0-1) _ (c.in-Some.at.now, c.in-Some.ensures, sym c.task-task.ensures ∙ c.in-Reduce.is) here c.in-Some-output.is new
