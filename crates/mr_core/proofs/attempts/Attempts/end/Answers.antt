use Rattle.std.proofs.Common.{◌≡◌, ℕ, ◌<◌, true, None, Some, Option, List, length, slice_get, ap, ◌∙◌, subst}
use Rattle.mr_core.specs.Master.{update_at}
use Rattle.mr_core.specs.Index.{Issued, IsBelow, ended}
use Rattle.mr_core.proofs.Indexed.{at_index, ended_live, ended_items, ended_index, view_as, below_known, written}
use Rattle.mr_core.proofs.attempts.Attempts.end.Goals as goal

pub end-requires-2 : goal.end-requires-2
end-requires-2 c =
    let known = at_index c.self.inside.items.items c.args.at c.index_mut-attempt.result.now (c.requires.0, ap (λ (v : Issued). slice_get v.items c.args.at) c.self.view_is ∙ c.requires.1, c.requires.2) c.index_mut-attempt.ensures.value in
    ended_live c.self.inside.items.items c.self.inside.counts c.self.inside.current.items c.self.invariant c.args.at c.index_mut-attempt.result.now known c.task-task.result c.task-task.ensures

pub invariant_of-self : goal.invariant_of-self
invariant_of-self c =
    let known = at_index c.self.inside.items.items c.args.at c.index_mut-attempt.result.now (c.requires.0, ap (λ (v : Issued). slice_get v.items c.args.at) c.self.view_is ∙ c.requires.1, c.requires.2) c.index_mut-attempt.ensures.value in
    ended_index c.self.inside.items.items c.self.inside.counts c.self.inside.current.items c.self.invariant c.args.at c.index_mut-attempt.result.now known c.task-task.result c.task-task.ensures c.end.new.self c.end.ensures c.worker-worker.result c.worker-worker.ensures c.end-2.new.self c.end-2.ensures _ (written c.self.inside.current.len c.put.new.items c.self.inside.current.items c.worker-worker.result None c.self.inside.current.ok.0 (c.put.ensures ∙ ap (λ (ws : List (Option ℕ)). update_at (λ y. None) c.worker-worker.result ws) c.as_mut_slice.ensures.value))

pub returns-clause-ended : goal.returns-clause-ended
returns-clause-ended c =
    let known = at_index c.self.inside.items.items c.args.at c.index_mut-attempt.result.now (c.requires.0, ap (λ (v : Issued). slice_get v.items c.args.at) c.self.view_is ∙ c.requires.1, c.requires.2) c.index_mut-attempt.ensures.value in
    let items = ended_items c.self.inside.items.items c.self.inside.counts c.self.inside.current.items c.self.invariant c.args.at c.index_mut-attempt.result.now known c.task-task.result c.task-task.ensures c.end.new.self c.end.ensures in
    view_as ended c.task-task.result c.worker-worker.result None _ _ c.self.inside.counts c.end-2.new.self c.self.inside.current.items _ items c.end-2.ensures (written c.self.inside.current.len c.put.new.items c.self.inside.current.items c.worker-worker.result None c.self.inside.current.ok.0 (c.put.ensures ∙ ap (λ (ws : List (Option ℕ)). update_at (λ y. None) c.worker-worker.result ws) c.as_mut_slice.ensures.value))
    ∙ ap (λ (v : Issued). let new : Issued = record v { items = update_at (λ t. record t { live = Rattle.std.proofs.Common.false }) c.args.at v.items } in new) c.self.view_is

pub returns-clause-below : goal.returns-clause-below
returns-clause-below c x at =
    let known = at_index c.self.inside.items.items c.args.at c.index_mut-attempt.result.now (c.requires.0, ap (λ (v : Issued). slice_get v.items c.args.at) c.self.view_is ∙ c.requires.1, c.requires.2) c.index_mut-attempt.ensures.value in
    let here : slice_get c.self.inside.items.items c.args.at ≡ Some x = ap (λ (v : Issued). slice_get v.items c.args.at) c.self.view_is ∙ at in
    subst (λ (v : Issued). IsBelow v.maps v.parts x.task) c.self.view_is (below_known c.self.inside.items.items c.self.inside.counts c.self.inside.current.items c.self.invariant c.args.at c.index_mut-attempt.result.now known x here)
