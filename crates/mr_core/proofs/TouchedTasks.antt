-- Before an event of a job that goes on no end is reached, and an event touches only its attempt's task.
use Rattle.std.proofs.Common.{◌≡◌, ℕ, zero, suc, ◌≤◌, Option, Some, None, List, [], ◌∷◌, replicate, slice_get, refl, ap, sym, ◌∙◌, subst, inl, inr, ◌⊎◌, arith, Bool, true, false, cond, not, ◌&&◌, ◌==◌, is_some, nat_lt}
use Rattle.std.specs.List.{list_any, list_all, AllByRecursion, count_by}
use Rattle.std.specs.Bool.{then_some}
use Rattle.std.specs.Option.{option_map, option_map_or}
use Rattle.std.proofs.lemmas.Bool.{cases_eq, false≢true, true≢false}
use Rattle.std.proofs.lemmas.Option.{cond_some}
use Rattle.std.proofs.lemmas.List.Sums.{sum_by_push}
use Rattle.mr_core.specs.declared.event.Task.{Task}
use Rattle.mr_core.specs.declared.event.Event.{Event}
use Rattle.mr_core.specs.declared.event.Reply.{Reply}
use Rattle.mr_core.specs.declared.event.Shape.{Shape}
use Rattle.mr_core.specs.declared.entries.Split.{Split}
use Rattle.mr_core.specs.declared.event.Task.TheVariants.{Map as MapTask, Reduce as ReduceTask}
use Rattle.mr_core.specs.declared.event.JobFault.TheVariants.{TooManyAttempts, NoWorkers, TooManySkips}
use Rattle.mr_core.specs.declared.event.End.TheVariants.{Done, Dismissed, Failed}
use Rattle.mr_core.specs.declared.event.Event.TheVariants.{Ask, Fetch, MapDone, MapFailed, ReduceDone, Lose, Damaged}
use Rattle.mr_core.specs.declared.event.Reply.TheVariants.{Map, Reduce, Wait, Stop, Region, Gone, Accepted, Ignored}
use Rattle.mr_core.specs.Master.{State, Attempt, Outcome, Step, Run, opening, update_at, task_eq, finish, issue, fetch, complete, leave_out, note_failure, commit, lose, damage, without_output, damaged_from, damaged_by, latest_in, settled, end_of, is_stuck, is_complete, is_active, is_task, issued, live, tasks, live_attempt, only_live, fetch_by, fetched_from, map_done_by, map_failed_by, reduce_done_by, takes, may_leave_out, failed_before, left_out, on_live, outcome, replies, given, asked, may_give, same_list, with_number, reply_eq, reply_ended, next_going, next_by}
use Rattle.mr_core.specs.Core.{InLimits, IsReached}
use Rattle.mr_core.specs.Index.{IsGoing, IsTouched, task_at, IsPlain}
use Rattle.mr_core.proofs.StepCases.{Rule, step_case}
use Rattle.mr_core.proofs.AttemptBounds.{attempts_few}
use Rattle.mr_core.proofs.TaskSearch.{one_of_all}
use Rattle.mr_core.proofs.Indexed.{count_same}
use Rattle.mr_core.proofs.Places.{get-update_other}
use Rattle.mr_core.proofs.Progress.{IsOfShape, GoesOn, run_going, going_at_opening}
use Rattle.mr_core.proofs.Tabled.{live_other}
use Rattle.mr_core.proofs.EndTests.{none_of_tasks}
use Rattle.mr_core.proofs.Updates.{live_there}

-- ---- no end is reached where the job goes on

nothing : (sh : Shape) (st : State) → Rule sh st (λ e r new. Unit {0})
nothing sh st = record {
  stays = λ e r n. tt;
  finishes = λ e r a n. tt;
  fetches = λ a m p at sp o l t s e. tt;
  completes = λ a o s at l t e. tt;
  notes = λ a s r. tt;
  leaves = λ a s r at l t m less. tt;
  commits = λ a o p at l t e f. tt;
  loses = λ w act. tt;
  damages = λ a m p o at l t e. tt;
  issues_map = λ w a s k act m l. tt;
  issues_reduce = λ w a p act m. tt;
}

over_false : (sh : Shape) (st : State) (over : Bool) → end_of sh st over ≡ None → end_of sh st false ≡ None
over_false sh st over e = by (list_all is_some st.committed) (list_all (λ x. x) st.lost) over (list_any (is_stuck sh st) (tasks sh)) e
  where
    by : (b c d f : Bool) → cond b (Some Done) (cond c (Some (Failed NoWorkers)) (cond d (Some (Failed TooManySkips)) (cond f (Some (Failed TooManyAttempts)) None))) ≡ None → cond b (Some Done) (cond c (Some (Failed NoWorkers)) (cond f (Some (Failed TooManyAttempts)) None)) ≡ None
    by true c d f e = absurd (cc e)
    by false true d f e = absurd (cc e)
    by false false true f e = absurd (cc e)
    by false false false f e = e

abbrev Calm : Shape → State → Type 0
Calm sh st = st.end ≡ None → end_of sh st false ≡ None

step_calm : (sh : Shape) (st : State) (e : Event) (r : Reply) (new : State) → Calm sh st → Step sh st e r new → Calm sh new
step_calm sh st e r new calm step =
    elim (step_case sh st (λ e r new. Unit {0}) (nothing sh st) e r new step) [
      | inl same ↦ subst (Calm sh) (sym same.0) calm
      | inr s ↦ subst (Calm sh) (sym s.is) (λ d. over_false sh s.mid s.over d)
    ]

run_calm : (sh : Shape) (st : State) (h : List (Event × Reply)) (new : State) → Calm sh st → Run sh st h new → Calm sh new
run_calm sh st [] new calm run = subst (Calm sh) (sym run) calm
run_calm sh st (e ∷ es) new calm run = run_calm sh run.0 es new (step_calm sh st (e.0) (e.1) run.0 calm run.1) run.2

some_left : (n : ℕ) → 1 ≤ n → list_all (λ x. x) (replicate n false) ≡ false
some_left zero h = absurd (omega arith)
some_left (suc n) h = refl

no_end_yet : (sh : Shape) (st : State) → list_all is_some st.committed ≡ false → list_all (λ x. x) st.lost ≡ false → list_any (is_stuck sh st) (tasks sh) ≡ false → end_of sh st false ≡ None
no_end_yet sh st a b c = rw (a, b, c) refl

record NoEnd (sh : Shape) (st : State) : Type 0 where
  committed : list_all is_some st.committed ≡ false
  lost : list_all (λ x. x) st.lost ≡ false
  stuck : list_any (is_stuck sh st) (tasks sh) ≡ false

no_end_is : (sh : Shape) (st : State) → end_of sh st false ≡ None → NoEnd sh st
no_end_is sh st e = by (list_all is_some st.committed) refl (list_all (λ x. x) st.lost) refl (list_any (is_stuck sh st) (tasks sh)) refl e
  where
    by : (b : Bool) → list_all is_some st.committed ≡ b → (c : Bool) → list_all (λ x. x) st.lost ≡ c → (f : Bool) → list_any (is_stuck sh st) (tasks sh) ≡ f → cond b (Some Done) (cond c (Some (Failed NoWorkers)) (cond f (Some (Failed TooManyAttempts)) None)) ≡ None → NoEnd sh st
    by true a c d f g e = absurd (cc e)
    by false a true d f g e = absurd (cc e)
    by false a false d true g e = absurd (cc e)
    by false a false d false g e = record { committed = a; lost = d; stuck = g }

pub calm : (sh : Shape) (st : State) → InLimits sh → IsReached sh st → st.end ≡ None → end_of sh st false ≡ None
calm sh st limits h =
    let start : GoesOn sh (opening sh) = (going_at_opening sh limits.parts.0 limits.attempts.0).goes_on refl in
    run_calm sh (opening sh) h.0 st (λ e. no_end_yet sh (opening sh) start.not_done (some_left sh.workers limits.workers.0) start.none_stuck) h.1

all_at : {X : Type 0} (P : X → Type 0) (xs : List X) (i : ℕ) (x : X) → AllByRecursion P xs → slice_get xs i ≡ Some x → P x
all_at P [] i x all e = absurd (cc e)
all_at P (y ∷ xs) zero x all e = let same : y ≡ x = cc e in subst P same all.0
all_at P (y ∷ xs) (suc i) x all e = all_at P xs i x all.1 e

none_task : (p : Task → Bool) (sh : Shape) (t : Task) → list_any p (tasks sh) ≡ false → is_task sh t ≡ true → p t ≡ false
none_task p sh t none is = by (p t) refl
  where
    by : (b : Bool) → p t ≡ b → b ≡ false
    by false e = refl
    by true e = absurd (true≢false (sym (one_of_all p sh t is e) ∙ none))

pub going : (sh : Shape) (st : State) → InLimits sh → IsReached sh st → st.end ≡ None → IsGoing sh st
going sh st limits h e =
    let sound = (run_going sh (opening sh) h.0 st (going_at_opening sh limits.parts.0 limits.attempts.0) h.1).0.sound in
    let none = no_end_is sh st (calm sh st limits h e) in
    record {
      few = attempts_few sh st limits h;
      splits = sound.splits_long;
      parts = sound.parts_long;
      tasks = λ a x at. all_at (IsOfShape sh) st.attempts a x sound.of_shape at;
      active = none.lost;
      whole = λ t is. none_task (is_stuck sh st) sh t none.stuck is;
    }

-- ---- a worker that asks ends nothing

asked_is : (sh : Shape) (st : State) (w : ℕ) (r : Reply) (new : State) → asked sh st w r ≡ Some new → (new ≡ st) ⊎ ((t : Task) × (k : List ℕ) × (new ≡ issue w t k sh st))
asked_is sh st w r new e = by (is_active st w) e
  where
    gives : (r : Reply) → given sh st w r ≡ Some new → (new ≡ st) ⊎ ((t : Task) × (k : List ℕ) × (new ≡ issue w t k sh st))
    gives (Map a s k) e = inr (MapTask s, k, sym ((cond_some _ (issue w (MapTask s) k sh st) new e).1))
    gives (Reduce a p) e = inr (ReduceTask p, [], sym ((cond_some _ (issue w (ReduceTask p) [] sh st) new e).1))
    gives Wait e = waits (list_any (may_give sh st w) (tasks sh)) e
      where
        waits : (b : Bool) → cond b None (Some st) ≡ Some new → (new ≡ st) ⊎ ((t : Task) × (k : List ℕ) × (new ≡ issue w t k sh st))
        waits true e = absurd (cc e)
        waits false e = let same : st ≡ new = cc e in inl (sym same)
    gives (Stop x) e = absurd (cc e)
    gives (Region x) e = absurd (cc e)
    gives Gone e = absurd (cc e)
    gives Accepted e = absurd (cc e)
    gives Ignored e = absurd (cc e)

    by : (b : Bool) → cond b (given sh st w r) (cond (reply_eq r (Stop Dismissed)) (Some st) None) ≡ Some new → (new ≡ st) ⊎ ((t : Task) × (k : List ℕ) × (new ≡ issue w t k sh st))
    by true e = gives r e
    by false e = inl (sym ((cond_some _ st new e).1))

issue_stuck : (sh : Shape) (st : State) (w : ℕ) (u : Task) (k : List ℕ) (t : Task) → is_stuck sh st t ≡ false → is_stuck sh (issue w u k sh st) t ≡ false
issue_stuck sh st w u k t e = by (task_eq u t) refl
  where
    x : Attempt
    x = record { worker = w; task = u; skips = k; fetched = Rattle.mr_core.specs.Master.nothing_fetched sh u; live = true }

    closed : (c m : Bool) → m ≡ false → (f : Bool) → (not c && (m && f)) ≡ false
    closed true m e f = refl
    closed false false e f = refl
    closed false true e f = absurd (true≢false e)

    not_zero : (l : ℕ) → 1 ≤ l → (l == 0) ≡ false
    not_zero l h = grind (arith, Rattle.std.proofs.lemmas.Bool.Decides.nat_tests)

    by : (b : Bool) → task_eq u t ≡ b → is_stuck sh (issue w u k sh st) t ≡ false
    by true is =
        let one : ◌≡◌ {A = ℕ} (cond (task_eq u t && true) 1 0) 1 = ap (λ b. cond (b && true) 1 0) is in
        closed (is_complete st t) _ (not_zero (live (issue w u k sh st) t) (omega (arith, one, sum_by_push (λ (b : Attempt). cond (task_eq b.task t && b.live) 1 0) st.attempts x))) _
    by false is =
        let none : ◌≡◌ {A = ℕ} (cond (task_eq u t && true) 1 0) 0 = ap (λ b. cond (b && true) 1 0) is in
        let also : ◌≡◌ {A = ℕ} (cond (task_eq u t) 1 0) 0 = ap (λ b. cond b 1 0) is in
        let same : live (issue w u k sh st) t ≡ live st t = omega (arith, none, sum_by_push (λ (b : Attempt). cond (task_eq b.task t && b.live) 1 0) st.attempts x) in
        let all : issued (issue w u k sh st) t ≡ issued st t = omega (arith, also, sum_by_push (λ (b : Attempt). cond (task_eq b.task t) 1 0) st.attempts x) in
        ap (λ (l : ℕ). not (is_complete st t) && ((l == 0) && not (nat_lt (issued (issue w u k sh st) t) sh.limits.attempts))) same
        ∙ ap (λ (n : ℕ). not (is_complete st t) && ((live st t == 0) && not (nat_lt n sh.limits.attempts))) all ∙ e

stays_open : (sh : Shape) (new : State) → new.end ≡ None → end_of sh new false ≡ None → new ≡ settled sh new false
stays_open sh new e d = let same : new.end ≡ end_of sh new false = e ∙ sym d in λ i. record new { end = same i }

pub asked_settled : (sh : Shape) (st : State) (w : ℕ) (r : Reply) (new : State) → InLimits sh → IsReached sh st → st.end ≡ None → asked sh st w r ≡ Some new → new ≡ settled sh new false
asked_settled sh st w r new limits h e is =
    let quiet = calm sh st limits h e in
    let none = no_end_is sh st quiet in
    elim (asked_is sh st w r new is) [
      | inl same ↦ subst (λ (v : State). v ≡ settled sh v false) (sym same) (stays_open sh st e quiet)
      | inr given ↦ subst (λ (v : State). v ≡ settled sh v false) (sym given.2) (stays_open sh (issue w given.0 given.1 sh st) e (no_end_yet sh (issue w given.0 given.1 sh st) none.committed none.lost (none_of_tasks (is_stuck sh (issue w given.0 given.1 sh st)) sh (λ t in_shape. issue_stuck sh st w given.0 given.1 t (none_task (is_stuck sh st) sh t none.stuck in_shape)))))
    ]

-- ---- the other events touch only their attempt's task

module _ (sh : Shape) (st : State) (a : ℕ) where
  record Good (out : Outcome) : Type 0 where
    plain : IsPlain out.reply
    lost : out.state.lost ≡ st.lost
    others : (t : Task) → (task_at st a ≡ Some t → ⊥) → is_stuck sh out.state t ≡ is_stuck sh st t

  good_same : (r : Reply) → IsPlain r → Good (replies r st)
  good_same r plain = record { plain = plain; lost = refl; others = λ t n. refl }

  stuck_as : (t : Task) (c : Bool) (l n : ℕ) → c ≡ is_complete st t → l ≡ live st t → n ≡ issued st t → (not c && ((l == 0) && not (nat_lt n sh.limits.attempts))) ≡ is_stuck sh st t
  stuck_as t c l n e d f = ap (λ x. not x && ((l == 0) && not (nat_lt n sh.limits.attempts))) e ∙ ap (λ (x : ℕ). not (is_complete st t) && ((x == 0) && not (nat_lt n sh.limits.attempts))) d ∙ ap (λ (x : ℕ). not (is_complete st t) && ((live st t == 0) && not (nat_lt x sh.limits.attempts))) f

  module _ (at : Attempt) (is_live : live_attempt st a ≡ Some at) where
    there : slice_get st.attempts a ≡ Some at
    there = live_there (slice_get st.attempts a) at is_live

    apart : (t : Task) → (task_at st a ≡ Some t → ⊥) → at.task ≡ t → ⊥
    apart t n e = n (ap (option_map (λ (x : Attempt). x.task)) there ∙ ap Some e)

    ended_live : (t : Task) → (task_at st a ≡ Some t → ⊥) → live (finish a st) t ≡ live st t
    ended_live t n = live_other st.attempts a at t there (apart t n)

    ended_issued : (t : Task) → issued (finish a st) t ≡ issued st t
    ended_issued t = count_same (λ b. task_eq b.task t) (λ b. record b { live = false }) (λ b. refl) a st.attempts

    -- a change after which the attempt has ended
    good_end : (r : Reply) (new : State) (over : Bool) → IsPlain r → new.lost ≡ st.lost → new.attempts ≡ (finish a st).attempts → ((t : Task) → (task_at st a ≡ Some t → ⊥) → is_complete new t ≡ is_complete st t) → Good (record { reply = r; state = new; over = over })
    good_end r new over plain lost e whole = record {
      plain = plain;
      lost = lost;
      others = λ t n. stuck_as t (is_complete new t) (live new t) (issued new t) (whole t n) (ap (λ (xs : List Attempt). count_by (λ b. task_eq b.task t && b.live) xs) e ∙ ended_live t n) (ap (λ (xs : List Attempt). count_by (λ b. task_eq b.task t) xs) e ∙ ended_issued t);
    }

    good_finish : (r : Reply) → IsPlain r → Good (replies r (finish a st))
    good_finish r plain = good_end r (finish a st) false plain refl refl (λ t n. whole t)
      where
        whole : (t : Task) → is_complete (finish a st) t ≡ is_complete st t
        whole (MapTask s) = refl
        whole (ReduceTask p) = refl

    good_fetch : (m o : ℕ) → Good (replies (Region o) (fetch a m o st))
    good_fetch m o = record {
      plain = tt;
      lost = refl;
      others = λ t n. stuck_as t (is_complete (fetch a m o st) t) (live (fetch a m o st) t) (issued (fetch a m o st) t) (whole t) (count_same (λ b. task_eq b.task t && b.live) (λ b. record b { fetched = update_at (λ x. Some o) m b.fetched }) (λ b. refl) a st.attempts) (count_same (λ b. task_eq b.task t) (λ b. record b { fetched = update_at (λ x. Some o) m b.fetched }) (λ b. refl) a st.attempts);
    }
      where
        whole : (t : Task) → is_complete (fetch a m o st) t ≡ is_complete st t
        whole (MapTask s) = refl
        whole (ReduceTask p) = refl

    from : (m p : ℕ) (x : Option (ℕ × ℕ)) → Good (fetched_from st a m x)
    from m p None = good_finish Gone tt
    from m p (Some x) = good_fetch m (x.0)

    fetch_case : (m : ℕ) (t : Task) (x : Option Split) → Good (fetch_by st a m t x)
    fetch_case m (ReduceTask p) None = good_same Ignored tt
    fetch_case m (ReduceTask p) (Some sp) = from m p sp.output
    fetch_case m (MapTask s) x = good_same Ignored tt

    done_case : (o : ℕ) (t : Task) → at.task ≡ t → Good (map_done_by st a o at t)
    done_case o (ReduceTask p) e = good_same Ignored tt
    done_case o (MapTask s) e = by (takes at.skips (slice_get st.splits s))
      where
        whole : (t : Task) → (task_at st a ≡ Some t → ⊥) → is_complete (complete s at.skips o at.worker (finish a st)) t ≡ is_complete st t
        whole (MapTask r) n = ap (λ (w : Option Split). option_map_or (λ (sp : Split). is_some sp.output) w false) (get-update_other _ s r st.splits (λ d. apart (MapTask r) n (e ∙ ap MapTask d)))
        whole (ReduceTask p) n = refl

        by : (b : Bool) → Good (cond b (replies Accepted (complete s at.skips o at.worker (finish a st))) (replies Ignored (finish a st)))
        by true = good_end Accepted (complete s at.skips o at.worker (finish a st)) false tt refl refl whole
        by false = good_finish Ignored tt

    failed_case : (r : ℕ) (t : Task) → Good (map_failed_by sh st a r t)
    failed_case r (ReduceTask p) = good_same Ignored tt
    failed_case r (MapTask s) = by (failed_before st s r && may_leave_out r (slice_get st.splits s)) (nat_lt (left_out st) sh.limits.skips)
      where
        noted : State
        noted = note_failure s r (finish a st)

        same : (xs : List Split) (i j : ℕ) → option_map_or (λ (sp : Split). is_some sp.output) (slice_get (update_at (λ (sp : Split). record sp { skips = with_number r sp.skips }) i xs) j) false ≡ option_map_or (λ (sp : Split). is_some sp.output) (slice_get xs j) false
        same [] i j = refl
        same (x ∷ xs) zero zero = refl
        same (x ∷ xs) zero (suc j) = refl
        same (x ∷ xs) (suc i) zero = refl
        same (x ∷ xs) (suc i) (suc j) = same xs i j

        whole : (t : Task) → is_complete noted t ≡ is_complete st t
        whole (MapTask r) = refl
        whole (ReduceTask p) = refl

        wide : (t : Task) → is_complete (leave_out s r noted) t ≡ is_complete st t
        wide (MapTask j) = same st.splits s j
        wide (ReduceTask p) = refl

        by : (b c : Bool) → Good (cond b (cond c (replies Accepted (leave_out s r noted)) (record { reply = Accepted; state = noted; over = true })) (replies Accepted noted))
        by true true = good_end Accepted (leave_out s r noted) false tt refl refl (λ t n. wide t)
        by true false = good_end Accepted noted true tt refl refl (λ t n. whole t)
        by false c = good_end Accepted noted false tt refl refl (λ t n. whole t)

    reduced_case : (o : ℕ) (t : Task) → at.task ≡ t → Good (reduce_done_by st a o at t)
    reduced_case o (MapTask s) e = good_same Ignored tt
    reduced_case o (ReduceTask p) e = by (not (is_complete st (ReduceTask p)) && list_all is_some at.fetched)
      where
        whole : (t : Task) → (task_at st a ≡ Some t → ⊥) → is_complete (commit p o (finish a st)) t ≡ is_complete st t
        whole (MapTask r) n = refl
        whole (ReduceTask q) n = ap (λ (w : Option (Option ℕ)). option_map_or is_some w false) (get-update_other (λ x. Some o) p q st.committed (λ d. apart (ReduceTask q) n (e ∙ ap ReduceTask d)))

        by : (b : Bool) → Good (cond b (replies Accepted (commit p o (finish a st))) (replies Ignored (finish a st)))
        by true = good_end Accepted (commit p o (finish a st)) false tt refl refl whole
        by false = good_finish Ignored tt

  live_case : (x : Option Attempt) (f : Attempt → Outcome) → live_attempt st a ≡ x → ((at : Attempt) → live_attempt st a ≡ Some at → Good (f at)) → Good (on_live st x f)
  live_case None f d g = good_same Ignored tt
  live_case (Some at) f d g = g at d

  abbrev IsBy : Event → Type 0
  IsBy (Fetch b m) = b ≡ a
  IsBy (MapDone b o) = b ≡ a
  IsBy (MapFailed b r) = b ≡ a
  IsBy (ReduceDone b o) = b ≡ a
  IsBy _ = ⊥

  good : (e : Event) → IsBy e → Good (outcome sh st e)
  good (Ask w) is = absurd is
  good (Lose w) is = absurd is
  good (Damaged b m) is = absurd is
  good (Fetch b m) is = subst (λ (n : ℕ). Good (outcome sh st (Fetch n m))) (sym is) (live_case (live_attempt st a) _ refl (λ at l. fetch_case at l m at.task (slice_get st.splits m)))
  good (MapDone b o) is = subst (λ (n : ℕ). Good (outcome sh st (MapDone n o))) (sym is) (live_case (live_attempt st a) _ refl (λ at l. done_case at l o at.task refl))
  good (MapFailed b r) is = subst (λ (n : ℕ). Good (outcome sh st (MapFailed n r))) (sym is) (live_case (live_attempt st a) _ refl (λ at l. failed_case at l r at.task))
  good (ReduceDone b o) is = subst (λ (n : ℕ). Good (outcome sh st (ReduceDone n o))) (sym is) (live_case (live_attempt st a) _ refl (λ at l. reduced_case at l o at.task refl))

  task_in_shape : IsGoing sh st → (x : Option Attempt) → slice_get st.attempts a ≡ x → (t : Task) → task_at st a ≡ Some t → is_task sh t ≡ true
  task_in_shape on None is t d = let gone : None ≡ Some t = sym (ap (option_map (λ (x : Attempt). x.task)) is) ∙ d in absurd (cc gone)
  task_in_shape on (Some x) is t d =
      let seen : Some x.task ≡ Some t = sym (ap (option_map (λ (x : Attempt). x.task)) is) ∙ d in
      let same : x.task ≡ t = cc seen in
      subst (λ (u : Task). is_task sh u ≡ true) same (on.tasks a x is)

  pub touched : (e : Event) → IsBy e → InLimits sh → IsReached sh st → st.end ≡ None → (r : Reply) (mid : State) (over : Bool) (task : Option Task) → outcome sh st e ≡ record { reply = r; state = mid; over = over } → task ≡ task_at st a → IsTouched sh mid task None
  touched e is limits h none r mid over task out e_task =
      let g = good e is in
      let on = going sh st limits h none in
      let state : (outcome sh st e).state ≡ mid = ap (λ (o : Outcome). o.state) out in
      subst (λ (o : Option Task). IsTouched sh mid o None) (sym e_task) (subst (λ (v : State). IsTouched sh v (task_at st a) None) state (record {
        active = ap (list_all (λ x. x)) g.lost ∙ on.active;
        here = λ t d. task_in_shape on (slice_get st.attempts a) refl t d;
        also = λ t d. absurd (cc d);
        others = λ t in_tasks n k. g.others t n ∙ on.whole t in_tasks;
      }))

-- ---- what an attempt can't read touches its task, and the map task of the split

module _ (sh : Shape) (st : State) (a m : ℕ) where
  record GoodBoth (out : Outcome) : Type 0 where
    lost : out.state.lost ≡ st.lost
    others : (t : Task) → (task_at st a ≡ Some t → ⊥) → (MapTask m ≡ t → ⊥) → is_stuck sh out.state t ≡ is_stuck sh st t

  of_good : (out : Outcome) → Good sh st a out → GoodBoth out
  of_good out g = record { lost = g.lost; others = λ t n k. g.others t n }

  damaged_case : (at : Attempt) → live_attempt st a ≡ Some at → (t : Task) → GoodBoth (damaged_by st a m at t)
  damaged_case at is (MapTask s) = of_good _ (good_same sh st a Ignored tt)
  damaged_case at is (ReduceTask p) = by (latest_in (slice_get at.fetched m))
    where
      whole : (o : ℕ) (t : Task) → (MapTask m ≡ t → ⊥) → is_complete (damage m o (finish a st)) t ≡ is_complete st t
      whole o (MapTask r) n = ap (λ (w : Option Split). option_map_or (λ (sp : Split). is_some sp.output) w false) (get-update_other (without_output o) m r st.splits (λ d. n (ap MapTask d)))
      whole o (ReduceTask q) n = refl

      by : (o : Option ℕ) → GoodBoth (damaged_from st a m o)
      by None = of_good _ (good_finish sh st a at is Ignored tt)
      by (Some o) = record {
        lost = refl;
        others = λ t n k. stuck_as sh st a t (is_complete (damage m o (finish a st)) t) (live (damage m o (finish a st)) t) (issued (damage m o (finish a st)) t) (whole o t k) (ended_live sh st a at is t n) (ended_issued sh st a at is t);
      }

  live_both : (x : Option Attempt) → live_attempt st a ≡ x → GoodBoth (on_live st x (λ at. damaged_by st a m at at.task))
  live_both None d = of_good _ (good_same sh st a Ignored tt)
  live_both (Some at) d = damaged_case at d at.task

  split_is : (b : Bool) → nat_lt m sh.maps ≡ b → (t : Task) → then_some b (MapTask m) ≡ Some t → is_task sh t ≡ true
  split_is true e t d = let same : MapTask m ≡ t = cc d in subst (λ (u : Task). is_task sh u ≡ true) same e
  split_is false e t d = absurd (cc d)

  split_of : (b : Bool) → nat_lt m sh.maps ≡ b → (t : Task) → is_task sh t ≡ true → MapTask m ≡ t → then_some b (MapTask m) ≡ Some t
  split_of true e t is d = ap Some d
  split_of false e t is d = absurd (false≢true (sym e ∙ subst (λ (u : Task). is_task sh u ≡ true) (sym d) is))

  pub touched_both : InLimits sh → IsReached sh st → st.end ≡ None → (r : Reply) (mid : State) (task : Option Task) → outcome sh st (Damaged a m) ≡ replies r mid → task ≡ task_at st a → IsTouched sh mid task (then_some (nat_lt m sh.maps) (MapTask m))
  touched_both limits h none r mid task out e_task =
      let g = live_both (live_attempt st a) refl in
      let on = going sh st limits h none in
      let state : (outcome sh st (Damaged a m)).state ≡ mid = ap (λ (o : Outcome). o.state) out in
      subst (λ (o : Option Task). IsTouched sh mid o (then_some (nat_lt m sh.maps) (MapTask m))) (sym e_task) (subst (λ (v : State). IsTouched sh v (task_at st a) (then_some (nat_lt m sh.maps) (MapTask m))) state (record {
        active = ap (list_all (λ x. x)) g.lost ∙ on.active;
        here = λ t d. task_in_shape sh st a on (slice_get st.attempts a) refl t d;
        also = λ t d. split_is (nat_lt m sh.maps) refl t d;
        others = λ t in_tasks n k. g.others t n (λ e. k (split_of (nat_lt m sh.maps) refl t in_tasks e)) ∙ on.whole t in_tasks;
      }))
