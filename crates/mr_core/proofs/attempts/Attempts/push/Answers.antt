use Rattle.std.proofs.Common.{◌≡◌, ℕ, ◌<◌, ◌&&◌, ◌==◌, false, Option, List, Some, [], ◌∷◌, ◌++◌, length, ap, sym, ◌∙◌, subst}
use Rattle.std.specs.List.{list_any}
use Rattle.mr_core.specs.declared.event.Task.{Task}
use Rattle.mr_core.specs.Master.{Attempt, update_at}
use Rattle.mr_core.specs.Index.{Issued, IsBelow, begun, change_count}
use Rattle.mr_core.proofs.Indexed.{indexed_push, indexed_as, view_as, written}
use Rattle.mr_core.proofs.attempts.Attempts.push.Goals as goal

pub invariant_of-self-2 : goal.invariant_of-self-2
invariant_of-self-2 c =
    let free = subst (λ (v : Issued). list_any (λ (b : Attempt). (b.worker == c.args.attempt.worker) && b.live) v.items ≡ false) (sym c.self.view_is) c.requires.free in
    let worker = subst (λ (v : Issued). c.args.attempt.worker < v.workers) (sym c.self.view_is) c.requires.worker in
    let task = subst (λ (v : Issued). IsBelow v.maps v.parts c.args.attempt.task) (sym c.self.view_is) c.requires.task in
    indexed_as (c.self.inside.items.items ++ c.args.attempt ∷ []) c.push.new.self.items (change_count begun c.args.attempt.task c.self.inside.counts) c.begin.new.self (update_at (λ y. Some (length c.self.inside.items.items)) c.args.attempt.worker c.self.inside.current.items) _
    c.in_ok-push.ensures.items (c.begin.ensures ∙ ap (λ (t : Task). change_count begun t c.self.inside.counts) c.task-task.ensures) (written c.self.inside.current.len c.put.new.items c.self.inside.current.items c.worker-worker.result (Some c.len-number.result) c.self.inside.current.ok.0 (c.put.ensures ∙ ap (λ (ws : List (Option ℕ)). update_at (λ y. Some c.len-number.result) c.worker-worker.result ws) c.as_mut_slice.ensures.value) ∙ ap (λ (n : ℕ). update_at (λ y. Some c.len-number.result) n c.self.inside.current.items) c.worker-worker.ensures ∙ ap (λ (n : ℕ). update_at (λ y. Some n) c.args.attempt.worker c.self.inside.current.items) (c.len-number.ensures ∙ c.self.inside.items.ok.0))
    (indexed_push c.self.inside.items.items c.self.inside.counts c.self.inside.current.items c.self.invariant c.args.attempt c.requires.live free worker task)

pub returns-clause-ok : goal.returns-clause-ok
returns-clause-ok c =
    view_as begun c.task-task.result c.worker-worker.result (Some c.len-number.result) _ _ c.self.inside.counts c.begin.new.self c.self.inside.current.items _ c.in_ok-push.ensures.items c.begin.ensures (written c.self.inside.current.len c.put.new.items c.self.inside.current.items c.worker-worker.result (Some c.len-number.result) c.self.inside.current.ok.0 (c.put.ensures ∙ ap (λ (ws : List (Option ℕ)). update_at (λ y. Some c.len-number.result) c.worker-worker.result ws) c.as_mut_slice.ensures.value))
    ∙ ap (λ (v : Issued). let new : Issued = record v { items = v.items ++ c.args.attempt ∷ [] } in new) c.self.view_is
