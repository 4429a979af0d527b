use Rattle.std.proofs.Common.{◌≡◌, Some, slice_get, true, refl, ap, ◌∙◌}
use Rattle.mr_core.specs.declared.entries.Split.{Split}
use Rattle.mr_core.specs.Master.{State, complete, finish}
use Rattle.mr_core.specs.Index.{Issued}
use Rattle.mr_core.proofs.Updates.{live_there}
use Rattle.mr_core.proofs.Tabled.{tabled_completed}
use Rattle.mr_core.proofs.Outcomes.{completed}
use Rattle.mr_core.proofs.tables.MasterState.complete.Goals as goal

pub invariant_of-self : goal.invariant_of-self
invariant_of-self c =
    let st : State = record { lost = c.self.inside.lost.items; splits = c.self.inside.splits; committed = c.self.inside.committed; attempts = c.self.inside.attempts.items; failures = c.self.inside.failures.items; end = c.self.inside.end } in
    let at : slice_get c.self.inside.attempts.items c.args.attempt ≡ Some c.requires.0 = ap (λ (v : State). slice_get v.attempts c.args.attempt) c.self.view_is ∙ live_there _ c.requires.0 c.requires.1 in
    tabled_completed st c.self.inside.attempts c.complete.new.self c.self.inside.next_map c.self.inside.next_part c.self.invariant c.args.attempt c.args.split c.requires.0 c.complete.new.splits (λ (sp : Split). record { skips = c.requires.0.skips; fixed = true; output = Some (c.args.output, c.requires.0.worker) }) c.complete.ensures.ended at c.requires.2 (c.complete.ensures.below c.requires.0 at) (λ sp. refl) (c.complete.ensures.splits c.requires.0 at)

pub returns : goal.returns
returns c x live =
    let st : State = record { lost = c.self.inside.lost.items; splits = c.self.inside.splits; committed = c.self.inside.committed; attempts = c.self.inside.attempts.items; failures = c.self.inside.failures.items; end = c.self.inside.end } in
    let at : slice_get c.self.inside.attempts.items c.args.attempt ≡ Some x = ap (λ (v : State). slice_get v.attempts c.args.attempt) c.self.view_is ∙ live_there _ x live in
    completed st c.complete.new.self.items c.complete.new.splits c.args.attempt c.args.split c.args.output x (ap (λ (v : Issued). v.items) c.complete.ensures.ended) (c.complete.ensures.splits x at)
    ∙ ap (λ (v : State). complete c.args.split x.skips c.args.output x.worker (finish c.args.attempt v)) c.self.view_is
