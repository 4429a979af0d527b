-- What a worker is answered that asks.
use Rattle.std.proofs.Common.{◌≡◌, ℕ, ◌<◌, ◌≤◌, ◌^◌, Some, None, Option, List, [], ◌∷◌, ◌++◌, length, slice_get, refl, ap, sym, ◌∙◌, subst, Bool, true, false, cond, not, ◌&&◌, ◌||◌, ◌==◌, nat_lt, is_some, arith}
use Rattle.std.specs.Option.{option_map_or}
use Rattle.std.specs.List.{list_any}
use Rattle.std.proofs.lemmas.Bool.{and_parts, ltb-true}
use Rattle.mr_core.specs.declared.event.Task.{Task}
use Rattle.mr_core.specs.declared.event.Task.TheVariants.{Map as MapTask}
use Rattle.mr_core.specs.declared.event.Reply.{Reply}
use Rattle.mr_core.specs.declared.event.Reply.TheVariants.{Map, Wait, Stop}
use Rattle.mr_core.specs.declared.event.End.TheVariants.{Dismissed}
use Rattle.mr_core.specs.declared.event.Shape.{Shape}
use Rattle.mr_core.specs.declared.entries.Split.{Split}
use Rattle.mr_core.specs.Master.{State, Attempt, may_give, given, asked, issue, same_list, tasks, is_active, is_task, has_live, may_newly, may_backup, opening}
use Rattle.mr_core.specs.Core.{InLimits, IsReached}
use Rattle.std.specs.Prelude.{MatchOption}
use Rattle.mr_core.specs.Queries.{is_lone}
use Rattle.mr_core.specs.Index.{IsGoing, IsBelow, IsCurrent}
use Rattle.mr_core.proofs.Indexed.{none_at}
use Rattle.mr_core.proofs.TaskSearch.{none_newly_or_backup, backup_may}
use Rattle.mr_core.proofs.Moves.{same_number, same_set, both}
use Rattle.mr_core.proofs.Progress.{run_going, going_at_opening}

there : (xs : List Split) (s : ℕ) → s < length xs → (sp : Split) × (slice_get xs s ≡ Some sp)
there [] s h = absurd (omega arith)
there (x ∷ xs) Rattle.std.proofs.Common.zero h = (x, refl)
there (x ∷ xs) (Rattle.std.proofs.Common.suc s) h = there xs s (omega arith)

pub given_map : (sh : Shape) (st : State) (w a s : ℕ) (k : List ℕ) (at : Attempt) (new : State) → a ≡ length st.attempts → may_give sh st w (MapTask s) ≡ true → s < length st.splits → ((sp : Split) → slice_get st.splits s ≡ Some sp → k ≡ sp.skips)
    → at ≡ record { worker = w; task = MapTask s; skips = k; fetched = []; live = true } → new ≡ record st { attempts = st.attempts ++ at ∷ [] } → given sh st w (Map a s k) ≡ Some new
given_map sh st w a s k at new number may h is e n =
    let sp = there st.splits s h in
    let listed : option_map_or (λ (sp : Split). same_list sp.skips k) (slice_get st.splits s) false ≡ true =
    ap (λ x. option_map_or (λ (sp : Split). same_list sp.skips k) x false) sp.1 ∙ ap (λ (l : List ℕ). same_list l k) (sym (is sp.0 sp.1)) ∙ same_set k in
    let first : (a == length st.attempts) ≡ true = ap (λ (n : ℕ). a == n) (sym number) ∙ same_number a in
    ap (λ (b : Bool). cond b (Some (issue w (MapTask s) k sh st)) None) (both _ _ first (both _ _ may listed))
    ∙ ap Some (sym (n ∙ ap (λ (x : Attempt). let after : State = record st { attempts = st.attempts ++ x ∷ [] } in after) e))

pub splits_long : (sh : Shape) (st : State) → InLimits sh → IsReached sh st → length st.splits ≡ sh.maps
splits_long sh st limits h = (run_going sh (opening sh) h.0 st (going_at_opening sh limits.parts.0 limits.attempts.0) h.1).0.sound.splits_long

pub asked_lost : (sh : Shape) (st : State) (w : ℕ) → is_active st w ≡ false → asked sh st w (Stop Dismissed) ≡ Some st
asked_lost sh st w e = ap (λ (b : Bool). cond b (given sh st w (Stop Dismissed)) (Some st)) e

pub asked_active : (sh : Shape) (st : State) (w : ℕ) (r : Reply) (new : State) → is_active st w ≡ true → given sh st w r ≡ Some new → asked sh st w r ≡ Some new
asked_active sh st w r new e g = rw e g

pub given_wait : (sh : Shape) (st : State) (w : ℕ) → list_any (may_give sh st w) (tasks sh) ≡ false → given sh st w Wait ≡ Some st
given_wait sh st w e = ap (λ (b : Bool). cond b None (Some st)) e

-- ---- answers of the calls that look

pub backup_given : (sh : Shape) (st : State) (w : ℕ) (r : Option Task) → MatchOption r (list_any (is_lone sh st) (tasks sh) ≡ false) (λ t. (is_lone sh st t ≡ true) × (is_task sh t ≡ true)) → has_live st w ≡ false → list_any (may_newly sh st) (tasks sh) ≡ false
    → MatchOption r (list_any (may_give sh st w) (tasks sh) ≡ false) (λ t. may_give sh st w t ≡ true)
backup_given sh st w None h free none = none_newly_or_backup sh st w none h
backup_given sh st w (Some t) h free none = backup_may sh st w t free h.1 none h.0

-- as the calls find it
pub busy_is : (xs : List Attempt) (w : ℕ) (r : Option ℕ) → MatchOption r (list_any (λ (a : Attempt). (a.worker == w) && a.live) xs ≡ false) (λ a. IsCurrent xs w a) → is_some r ≡ list_any (λ (a : Attempt). (a.worker == w) && a.live) xs
busy_is xs w None h = sym h
busy_is xs w (Some a) h = by (list_any (λ (a : Attempt). (a.worker == w) && a.live) xs) refl
  where
    by : (b : Bool) → list_any (λ (a : Attempt). (a.worker == w) && a.live) xs ≡ b → true ≡ b
    by true e = refl
    by false e = absurd (Rattle.std.proofs.lemmas.Bool.false≢true (sym (none_at (λ (b : Attempt). (b.worker == w) && b.live) xs a h.0 e h.1) ∙ both _ _ (Rattle.std.proofs.Common.eq-eqb h.0.worker w h.3) h.2))

pub active_below : (st : State) (w : ℕ) → is_active st w ≡ true → w < length st.lost
active_below st w e = by st.lost w e
  where
    by : (xs : List Bool) (i : ℕ) → option_map_or not (slice_get xs i) false ≡ true → i < length xs
    by [] i e = absurd (Rattle.std.proofs.lemmas.Bool.false≢true e)
    by (x ∷ xs) Rattle.std.proofs.Common.zero e = omega arith
    by (x ∷ xs) (Rattle.std.proofs.Common.suc i) e = omega (arith, by xs i e)

pub task_below : (sh : Shape) (st : State) (w : ℕ) (t : Task) → IsGoing sh st → may_give sh st w t ≡ true → IsBelow (length st.splits) (length st.committed) t
task_below sh st w t going may = by t ((and_parts (is_task sh t) (not (has_live st w) && (may_newly sh st t || may_backup sh st t)) may).0)
  where
    by : (t : Task) → is_task sh t ≡ true → IsBelow (length st.splits) (length st.committed) t
    by (MapTask s) e = let h = ltb-true s sh.maps e in omega (arith, h, going.splits)
    by (Rattle.mr_core.specs.declared.event.Task.TheVariants.Reduce p) e = let h = ltb-true p sh.parts e in omega (arith, h, going.parts)

pub free_of_may : (sh : Shape) (st : State) (w : ℕ) (t : Task) → may_give sh st w t ≡ true → has_live st w ≡ false
free_of_may sh st w t may = Rattle.std.proofs.lemmas.Bool.not-true (has_live st w) ((and_parts (not (has_live st w)) (may_newly sh st t || may_backup sh st t) ((and_parts (is_task sh t) (not (has_live st w) && (may_newly sh st t || may_backup sh st t)) may).1)).0)
