use Rattle.std.proofs.Common.{◌≡◌, Some, slice_get, ap, ◌∙◌}
use Rattle.mr_core.specs.Master.{State}
use Rattle.mr_core.proofs.Updates.{live_there}
use Rattle.mr_core.proofs.Tabled.{tabled_committed}
use Rattle.mr_core.proofs.tables.MasterState.commit.Goals as goal

pub invariant_of-self : goal.invariant_of-self
invariant_of-self c =
    let st : State = record { lost = c.self.inside.lost.items; splits = c.self.inside.splits; committed = c.self.inside.committed; attempts = c.self.inside.attempts.items; failures = c.self.inside.failures.items; end = c.self.inside.end } in
    let at : slice_get c.self.inside.attempts.items c.args.attempt ≡ Some c.requires.0 = ap (λ (v : State). slice_get v.attempts c.args.attempt) c.self.view_is ∙ live_there _ c.requires.0 c.requires.1 in
    tabled_committed st c.self.inside.attempts c.end.new.self c.self.inside.next_map c.self.inside.next_part c.self.invariant c.args.attempt c.args.partition c.args.output c.requires.0 c.commit.new.self c.end.ensures.ended at c.requires.2 (c.end.ensures.below c.requires.0 at) c.commit.ensures
