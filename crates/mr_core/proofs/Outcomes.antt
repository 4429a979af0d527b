-- What an event leads to, by its cases.
use Rattle.std.proofs.Common.{◌≡◌, ℕ, Some, None, List, slice_get, refl, ap, sym, ◌∙◌, Bool, true, false, cond, ◌&&◌, nat_lt}
use Rattle.mr_core.specs.declared.event.Task.{Task}
use Rattle.mr_core.specs.declared.event.Shape.{Shape}
use Rattle.mr_core.specs.declared.entries.Split.{Split}
use Rattle.mr_core.specs.Master.{State, Attempt, Outcome, live_attempt, on_live, fetch_by, fetched_from, map_failed_by, outcome, replies, finish, fetch, complete, leave_out, note_failure, may_leave_out, failed_before, left_out, update_at}
use Rattle.mr_core.specs.Queries.{IsLive}
use Rattle.mr_core.specs.declared.event.Task.TheVariants.{Map as MapTask, Reduce as ReduceTask}
use Rattle.mr_core.specs.declared.event.Event.TheVariants.{Fetch, MapFailed}
use Rattle.mr_core.specs.declared.event.Reply.TheVariants.{Region, Accepted, Ignored}

module _ (st : State) (a : ℕ) where
  dead : (f : Attempt → Outcome) → live_attempt st a ≡ None → on_live st (live_attempt st a) f ≡ replies Ignored st
  dead f l = ap (λ x. on_live st x f) l

  alive : (f : Attempt → Task → Outcome) (at : Attempt) (t : Task) → live_attempt st a ≡ Some at → at.task ≡ t → on_live st (live_attempt st a) (λ at. f at at.task) ≡ f at t
  alive f at t l e = ap (λ x. on_live st x (λ at. f at at.task)) l ∙ ap (f at) e

  -- ---- fetches
  pub fetch_region : (sh : Shape) (m p : ℕ) (sp : Split) (o : ℕ × ℕ) (new : State) → IsLive st a (ReduceTask p) → slice_get st.splits m ≡ Some sp → sp.output ≡ Some o → new ≡ fetch a m (o.0) st → outcome sh st (Fetch a m) ≡ replies (Region (o.0)) new
  fetch_region sh m p sp o new l s e n =
      alive (λ at t. fetch_by st a m t (slice_get st.splits m)) l.0 (ReduceTask p) l.1 l.2 ∙ ap (fetch_by st a m (ReduceTask p)) s ∙ ap (fetched_from st a m) e ∙ ap (replies (Region (o.0))) (sym n)

  -- ---- failures
  pub failed_dead : (sh : Shape) (r : ℕ) → live_attempt st a ≡ None → outcome sh st (MapFailed a r) ≡ replies Ignored st
  failed_dead sh r l = dead _ l

  pub failed_of_reduce : (sh : Shape) (r p : ℕ) → IsLive st a (ReduceTask p) → outcome sh st (MapFailed a r) ≡ replies Ignored st
  failed_of_reduce sh r p l = alive (λ at t. map_failed_by sh st a r t) l.0 (ReduceTask p) l.1 l.2

  module _ (sh : Shape) (r s : ℕ) (l : IsLive st a (MapTask s)) where
    by_case : (b c : Bool) → (failed_before st s r && may_leave_out r (slice_get st.splits s)) ≡ b → nat_lt (left_out st) sh.limits.skips ≡ c
        → outcome sh st (MapFailed a r) ≡ cond b (cond c (replies Accepted (leave_out s r (note_failure s r (finish a st)))) (record { reply = Accepted; state = note_failure s r (finish a st); over = true })) (replies Accepted (note_failure s r (finish a st)))
    by_case b c d e =
        alive (λ at t. map_failed_by sh st a r t) l.0 (MapTask s) l.1 l.2
        ∙ ap (λ x. cond x (cond (nat_lt (left_out st) sh.limits.skips) (replies Accepted (leave_out s r (note_failure s r (finish a st)))) (record { reply = Accepted; state = note_failure s r (finish a st); over = true })) (replies Accepted (note_failure s r (finish a st)))) d
        ∙ ap (λ x. cond b (cond x (replies Accepted (leave_out s r (note_failure s r (finish a st)))) (record { reply = Accepted; state = note_failure s r (finish a st); over = true })) (replies Accepted (note_failure s r (finish a st)))) e

    pub failed_noted : (failed_before st s r && may_leave_out r (slice_get st.splits s)) ≡ false → outcome sh st (MapFailed a r) ≡ replies Accepted (note_failure s r (finish a st))
    failed_noted d = by_case false (nat_lt (left_out st) sh.limits.skips) d refl

    pub failed_over : (failed_before st s r && may_leave_out r (slice_get st.splits s)) ≡ true → nat_lt (left_out st) sh.limits.skips ≡ false → outcome sh st (MapFailed a r) ≡ record { reply = Accepted; state = note_failure s r (finish a st); over = true }
    failed_over d e = by_case true false d e

    pub failed_left_out : (failed_before st s r && may_leave_out r (slice_get st.splits s)) ≡ true → nat_lt (left_out st) sh.limits.skips ≡ true → outcome sh st (MapFailed a r) ≡ replies Accepted (leave_out s r (note_failure s r (finish a st)))
    failed_left_out d e = by_case true true d e

-- ---- lists put back into the state

pub completed : (old : State) (ats : List Attempt) (sps : List Split) (a s o : ℕ) (at : Attempt) → ats ≡ update_at (λ (t : Attempt). record t { live = false }) a old.attempts
    → sps ≡ update_at (λ (sp : Split). record { skips = at.skips; fixed = true; output = Some (o, at.worker) }) s old.splits
    → (let new : State = record old { splits = sps; attempts = ats } in new) ≡ complete s at.skips o at.worker (finish a old)
completed old ats sps a s o at e d = λ i. record old { splits = d i; attempts = e i }
