use Rattle.std.proofs.Common.{false, ap, ◌∙◌, is_some}
use Rattle.std.specs.List.{list_all}
use Rattle.mr_core.specs.Master.{State}
use Rattle.mr_core.proofs.EndTests.{ended_as}
use Rattle.mr_core.proofs.tables.MasterState.settle.Goals as goal

pub returns : goal.returns
returns c =
    let st : State = record { lost = c.self.inside.lost.items; splits = c.self.inside.splits; committed = c.self.inside.committed; attempts = c.self.inside.attempts.items; failures = c.self.inside.failures.items; end = c.self.inside.end } in
    ended_as c.args.shape st c.args.self.now c.is_whole.result c.all_true-lost.result false c.has_stuck-stuck.result c.first_end-self-inside.result c.self.view_is (c.is_whole.ensures ∙ ap (λ (v : State). list_all is_some v.committed) c.self.view_is) (c.all_true-lost.ensures ∙ ap (list_all (λ x. x)) c.as_slice.ensures.value ∙ ap (λ (v : State). list_all (λ x. x) v.lost) c.self.view_is) c.has_stuck-stuck.ensures c.first_end-self-inside.ensures
