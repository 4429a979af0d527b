use Rattle.std.proofs.Common.{◌≡◌, ℕ, List, Option, false, Some, slice_get, ap, sym, ◌∙◌, map, ◌&&◌, ◌==◌, subst}
use Rattle.std.specs.Prelude.{MatchOption}
use Rattle.std.specs.List.{list_any}
use Rattle.mr_core.specs.Master.{Attempt, update_at, left_by}
use Rattle.mr_core.specs.Index.{Issued, IsCurrent, entry}
use Rattle.mr_core.proofs.Indexed.{current_is, left_is}
use Rattle.mr_core.proofs.attempts.Attempts.current.Goals as goal

pub returns-clause-current : goal.returns-clause-current
returns-clause-current c = subst (λ (v : Issued). MatchOption c.entry_at.result (list_any (λ (b : Attempt). (b.worker == c.args.worker) && b.live) v.items ≡ false) (λ a. IsCurrent v.items c.args.worker a)) c.self.view_is (current_is c.self.inside.items.items c.self.inside.counts c.self.inside.current.items c.self.invariant c.args.worker c.entry_at.result (c.entry_at.ensures ∙ ap (λ (ws : List (Option ℕ)). entry (slice_get ws c.args.worker)) c.as_slice.ensures.value))

pub returns-clause-left : goal.returns-clause-left
returns-clause-left c = subst (λ (v : Issued). MatchOption c.entry_at.result (map (left_by c.args.worker) v.items ≡ v.items) (λ a. map (left_by c.args.worker) v.items ≡ update_at (λ t. record t { live = false }) a v.items)) c.self.view_is (left_is c.self.inside.items.items c.self.inside.counts c.self.inside.current.items c.self.invariant c.args.worker c.entry_at.result (c.entry_at.ensures ∙ ap (λ (ws : List (Option ℕ)). entry (slice_get ws c.args.worker)) c.as_slice.ensures.value))

pub returns-clause-only : goal.returns-clause-only
returns-clause-only c a x at live worker =
    let here : slice_get c.self.inside.items.items a ≡ Some x = ap (λ (v : Issued). slice_get v.items a) c.self.view_is ∙ at in
    (c.entry_at.ensures ∙ ap (λ (ws : List (Option ℕ)). entry (slice_get ws c.args.worker)) c.as_slice.ensures.value) ∙ ap (λ (w : ℕ). entry (slice_get c.self.inside.current.items w)) (sym worker) ∙ ap entry (c.self.invariant.all a x here live)
