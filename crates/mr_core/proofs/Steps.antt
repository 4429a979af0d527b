-- Each step keeps the bounds, and what was fixed stays fixed.
use Rattle.std.proofs.Common.{◌≡◌, ℕ, zero, suc, ◌<◌, Option, Some, None, List, [], ◌∷◌, ◌++◌, map, replicate, slice_get, refl, ap, sym, ◌∙◌, subst, inl, inr, ◌⊎◌, arith, Bool, true, false, cond, not, ◌||◌, is_none, nat_lt}
use Rattle.std.specs.List.{sum_by, count_by}
use Rattle.std.specs.Option.{option_map, option_map_or}
use Rattle.std.specs.Cmp.Lexicographic.{bytes_decides}
use Rattle.std.proofs.lemmas.Bool.{and_parts, or_cases, not-true, ltb-true}
use Rattle.std.proofs.lemmas.Option.{cond_some, slice_get-map, some_pair_parts}
use Rattle.std.proofs.lemmas.List.{map_push}
use Rattle.std.proofs.lemmas.List.Sums.{sum_by-cons}
use Rattle.mr_core.specs.declared.event.Task.{Task}
use Rattle.mr_core.specs.declared.event.Event.{Event}
use Rattle.mr_core.specs.declared.event.Reply.{Reply}
use Rattle.mr_core.specs.declared.event.Shape.{Shape}
use Rattle.mr_core.specs.declared.entries.Split.{Split}
use Rattle.mr_core.specs.Master.{State, Attempt, Step, Run, opening, update_at, finish, issue, fetch, complete, leave_out, note_failure, commit, lose, damage, left_by, gone_with, without_output, live_attempt, only_live, takes, may_leave_out, may_give, issued, left_out, is_complete, is_open, may_newly, may_backup, with_number, is_task, has_live, same_list}
use Rattle.mr_core.specs.declared.event.Task.TheVariants.{Map as MapTask, Reduce as ReduceTask}
use Rattle.mr_core.specs.declared.event.Event.TheVariants.{MapDone}
use Rattle.mr_core.specs.declared.event.Reply.TheVariants.{Accepted}
use Rattle.mr_bytes.specs.Lists.{Has}
use Rattle.mr_core.specs.Laws.{IsMapOf}
use Rattle.mr_core.proofs.StepCases.{Rule, step_holds}
use Rattle.mr_core.proofs.Places.{map-update_same, map-update, map-map_same}
use Rattle.mr_core.proofs.Views.{Jobs, Sets, size, is_of, Kept, IsFixed, Goes, stays_same, pushes, fixes, widens, length-with_number}

abbrev pub job_of : Attempt → Task × List ℕ
job_of a = (a.task, a.skips)

abbrev pub set_of : Split → List ℕ × Bool
set_of sp = (sp.skips, sp.fixed)

abbrev pub jobs : State → Jobs
jobs st = map job_of st.attempts

abbrev pub sets : State → Sets
sets st = map set_of st.splits

-- ---- the bounds, said of the state

count_by-map : {X Y : Type 0} (f : X → Y) (p : Y → Bool) (xs : List X) → count_by p (map f xs) ≡ count_by (λ x. p (f x)) xs
count_by-map f p [] = refl
count_by-map f p (x ∷ xs) = omega (arith, sum_by-cons (λ y. cond (p y) 1 0) (f x) (map f xs), sum_by-cons (λ z. cond (p (f z)) 1 0) x xs, count_by-map f p xs)

sum_by-map : {X Y : Type 0} (f : X → Y) (n : Y → ℕ) (xs : List X) → sum_by n (map f xs) ≡ sum_by (λ x. n (f x)) xs
sum_by-map f n [] = refl
sum_by-map f n (x ∷ xs) = omega (arith, sum_by-cons n (f x) (map f xs), sum_by-cons (λ z. n (f z)) x xs, sum_by-map f n xs)

pub issued-is : (st : State) (t : Task) → count_by (is_of t) (jobs st) ≡ issued st t
issued-is st t = count_by-map job_of (is_of t) st.attempts

pub left_out-is : (st : State) → sum_by size (sets st) ≡ left_out st
left_out-is st = sum_by-map set_of size st.splits

module _ (sh : Shape) (st : State) where
  abbrev pub KeptAt : Type 0
  KeptAt = Kept sh.limits.skips sh.limits.attempts (jobs st) (sets st)

  abbrev pub GoesTo : State → Type 0
  GoesTo new = Goes sh.limits.skips sh.limits.attempts (jobs st) (sets st) (jobs new) (sets new)

  -- the new state is seen as these
  seen_as : (new : State) (js : Jobs) (ss : Sets) → jobs new ≡ js → sets new ≡ ss → Goes sh.limits.skips sh.limits.attempts (jobs st) (sets st) js ss → GoesTo new
  seen_as new js ss e d g = subst (λ j. Goes sh.limits.skips sh.limits.attempts (jobs st) (sets st) j (sets new)) (sym e) (subst (λ s. Goes sh.limits.skips sh.limits.attempts (jobs st) (sets st) js s) (sym d) g)

module _ (st : State) where
  pub live_is : (x : Option Attempt) (at : Attempt) → only_live x ≡ Some at → x ≡ Some at
  live_is None at e = absurd (cc e)
  live_is (Some b) at e = ap Some ((cond_some b.live b at e).1)

  pub job_at : (a : ℕ) (at : Attempt) → live_attempt st a ≡ Some at → slice_get (jobs st) a ≡ Some (job_of at)
  job_at a at e = slice_get-map job_of st.attempts a ∙ ap (option_map job_of) (live_is (slice_get st.attempts a) at e)

  pub set_at : (s : ℕ) (sp : Split) → slice_get st.splits s ≡ Some sp → slice_get (sets st) s ≡ Some (set_of sp)
  set_at s sp e = slice_get-map set_of st.splits s ∙ ap (option_map set_of) e

  pub set_now : (s : ℕ) (k : List ℕ) (x : Option Split) → slice_get st.splits s ≡ x → option_map_or (λ sp. same_list sp.skips k) x false ≡ true → (f : Bool) × (slice_get (sets st) s ≡ Some (k, f))
  set_now s k None is e = absurd (cc e)
  set_now s k (Some sp) is e = (sp.fixed, set_at s sp is ∙ ap (λ w. Some (w, sp.fixed)) ((bytes_decides sp.skips k).0 e))

pub finished : (a : ℕ) (st : State) → jobs (finish a st) ≡ jobs st
finished a st = map-update_same job_of (λ t. record t { live = false }) (λ t. refl) a st.attempts

module _ (sh : Shape) (st : State) (kept : KeptAt sh st) where
  unmoved : (new : State) → jobs new ≡ jobs st → sets new ≡ sets st → GoesTo sh st new
  unmoved new e d = seen_as sh st new (jobs st) (sets st) e d (stays_same sh.limits.skips sh.limits.attempts (jobs st) (sets st) kept)

  stood : GoesTo sh st st
  stood = unmoved st refl refl

  ended : (a : ℕ) → GoesTo sh st (finish a st)
  ended a = unmoved (finish a st) (finished a st) refl

  -- what a step leaves: the bounds, what was fixed, and, where an output was accepted, its split fixed
  record Sees (e : Event) (r : Reply) (new : State) : Type 0 where
    goes : GoesTo sh st new
    accepts : (a o : ℕ) → e ≡ MapDone a o → r ≡ Accepted → IsFixed (jobs new) (sets new) a

  plainly : (e : Event) (r : Reply) (new : State) → ((a o : ℕ) → e ≡ MapDone a o → r ≡ Accepted → ⊥) → GoesTo sh st new → Sees e r new
  plainly e r new n g = record { goes = g; accepts = λ a o d acc. absurd (n a o d acc) }

  takes_goes : (a o s : ℕ) (at : Attempt) → slice_get (jobs st) a ≡ Some (MapTask s, at.skips) → (x : Option Split) → slice_get st.splits s ≡ x → takes at.skips x ≡ true → Sees (MapDone a o) Accepted (complete s at.skips o at.worker (finish a st))
  takes_goes a o s at job None is t = absurd (cc t)
  takes_goes a o s at job (Some sp) is t =
      let free : (not sp.fixed || same_list sp.skips at.skips) ≡ true = (and_parts (is_none sp.output) (not sp.fixed || same_list sp.skips at.skips) t).1 in
      let fits : (sp.fixed ≡ false) ⊎ (sp.skips ≡ at.skips) = elim (or_cases (not sp.fixed) (same_list sp.skips at.skips) free) [ inl e ↦ inl (not-true sp.fixed e) | inr e ↦ inr ((bytes_decides sp.skips at.skips).0 e) ] in
      let r = fixes sh.limits.skips sh.limits.attempts (jobs st) (sets st) kept a s at.skips sp.skips sp.fixed job (set_at st s sp is) fits in
      let new = complete s at.skips o at.worker (finish a st) in
      let d : sets new ≡ update_at (λ p. (at.skips, true)) s (sets st) = map-update set_of (λ p. record { skips = at.skips; fixed = true; output = Some (o, at.worker) }) (λ p. (at.skips, true)) (λ p. refl) s st.splits in
      record {
        goes = seen_as sh st new (jobs st) (update_at (λ p. (at.skips, true)) s (sets st)) (finished a st) d r.0;
        accepts = λ b x e acc. let same : a ≡ b = cc e in subst (IsFixed (jobs new) (sets new)) same (subst (λ j. IsFixed j (sets new) a) (sym (finished a st)) (subst (λ w. IsFixed (jobs st) w a) (sym d) r.1));
      }

  widen_goes : (s r a : ℕ) (x : Option Split) → slice_get st.splits s ≡ x → may_leave_out r x ≡ true → left_out st < sh.limits.skips → GoesTo sh st (leave_out s r (note_failure s r (finish a st)))
  widen_goes s r a None is t less = absurd (cc t)
  widen_goes s r a (Some sp) is t less =
      let open' : sp.fixed ≡ false = not-true sp.fixed ((and_parts (not sp.fixed) _ t).0) in
      let at : slice_get (sets st) s ≡ Some (sp.skips, false) = set_at st s sp is ∙ ap (λ b. Some (sp.skips, b)) open' in
      let d : sets (leave_out s r (note_failure s r (finish a st))) ≡ update_at (λ p. (with_number r (p.0), p.1)) s (sets st) = map-update set_of (λ p. record p { skips = with_number r p.skips }) (λ p. (with_number r (p.0), p.1)) (λ p. refl) s st.splits in
      seen_as sh st (leave_out s r (note_failure s r (finish a st))) (jobs st) (update_at (λ p. (with_number r (p.0), p.1)) s (sets st)) (finished a st) d (widens sh.limits.skips sh.limits.attempts (jobs st) (sets st) kept s r sp.skips at (length-with_number r sp.skips) (omega (arith, left_out-is st, less)))

  open_few : (t : Task) → is_open sh st t ≡ true → issued st t < sh.limits.attempts
  open_few (MapTask s) e = ltb-true _ _ ((and_parts (not (is_complete st (MapTask s))) _ e).1)
  open_few (ReduceTask p) e = ltb-true _ _ ((and_parts (nat_lt (issued st (ReduceTask p)) sh.limits.attempts) _ ((and_parts (not (is_complete st (ReduceTask p))) _ e).1)).0)

  given_few : (w : ℕ) (t : Task) → may_give sh st w t ≡ true → issued st t < sh.limits.attempts
  given_few w t e =
      let may = (and_parts (not (has_live st w)) _ ((and_parts (is_task sh t) _ e).1)).1 in
      elim (or_cases (may_newly sh st t) (may_backup sh st t) may) [
        | inl new ↦ open_few t ((and_parts (is_open sh st t) _ new).0)
        | inr backup ↦ open_few t ((and_parts (is_open sh st t) _ backup).0)
      ]

  issue_goes : (w : ℕ) (t : Task) (k : List ℕ) → may_give sh st w t ≡ true → ((s : ℕ) → t ≡ MapTask s → (f : Bool) × (slice_get (sets st) s ≡ Some (k, f))) → GoesTo sh st (issue w t k sh st)
  issue_goes w t k may as_set =
      seen_as sh st (issue w t k sh st) (jobs st ++ (t, k) ∷ []) (sets st) (map_push job_of st.attempts _) refl
      (pushes sh.limits.skips sh.limits.attempts (jobs st) (sets st) kept t k (omega (arith, issued-is st t, given_few w t may)) as_set)

  sees_rule : Rule sh st Sees
  sees_rule = record {
    stays = λ e r n. plainly e r st (λ a o d acc. n acc) stood;
    finishes = λ e r a n. plainly e r (finish a st) (λ b o d acc. n acc) (ended a);
    fetches = λ a m p at sp o l t s so. plainly _ _ (fetch a m (o.0) st) (λ b x d acc. cc d) (unmoved (fetch a m (o.0) st) (map-update_same job_of (λ t. record t { fetched = update_at (λ x. Some (o.0)) m t.fetched }) (λ t. refl) a st.attempts) refl);
    completes = λ a o s at l t k. takes_goes a o s at (job_at st a at l ∙ ap (λ u. Some (u, at.skips)) t) (slice_get st.splits s) refl k;
    notes = λ a s r. plainly _ _ (note_failure s r (finish a st)) (λ b x d acc. cc d) (unmoved (note_failure s r (finish a st)) (finished a st) refl);
    leaves = λ a s r at l t m less. plainly _ _ (leave_out s r (note_failure s r (finish a st))) (λ b x d acc. cc d) (widen_goes s r a (slice_get st.splits s) refl m less);
    commits = λ a o p at l t c f. plainly _ _ (commit p o (finish a st)) (λ b x d acc. cc d) (unmoved (commit p o (finish a st)) (finished a st) refl);
    loses = λ w act. plainly _ _ (lose w st) (λ b x d acc. cc d) (unmoved (lose w st) (map-map_same job_of (left_by w) (λ a. refl) st.attempts) (map-map_same set_of (gone_with w) (λ sp. refl) st.splits));
    damages = λ a m p o at l t e. plainly _ _ (damage m o (finish a st)) (λ b x d acc. cc d) (unmoved (damage m o (finish a st)) (finished a st) (map-update_same set_of (without_output o) (λ sp. refl) m st.splits));
    issues_map = λ w a s k act m listed. plainly _ _ (issue w (MapTask s) k sh st) (λ b x d acc. cc d) (issue_goes w (MapTask s) k m (λ t d. let same : s ≡ t = cc d in subst (λ v. (f : Bool) × (slice_get (sets st) v ≡ Some (k, f))) same (set_now st s k (slice_get st.splits s) refl listed)));
    issues_reduce = λ w a p act m. plainly _ _ (issue w (ReduceTask p) [] sh st) (λ b x d acc. cc d) (issue_goes w (ReduceTask p) [] m (λ t d. absurd (cc d)));
  }

  step_sees : (e : Event) (r : Reply) (new : State) → Step sh st e r new → Sees e r new
  step_sees = step_holds sh st Sees sees_rule (λ e r mid over s. record { goes = record { kept = record { room = s.goes.kept.room; few = s.goes.kept.few; grows = s.goes.kept.grows }; stays = s.goes.stays }; accepts = s.accepts })

  pub step_goes : (e : Event) (r : Reply) (new : State) → Step sh st e r new → GoesTo sh st new
  step_goes e r new h = (step_sees e r new h).goes

  pub step_accepts : (a o : ℕ) (new : State) → Step sh st (MapDone a o) Accepted new → IsFixed (jobs new) (sets new) a
  step_accepts a o new h = (step_sees (MapDone a o) Accepted new h).accepts a o refl refl

-- ---- whole runs

pub run_goes : (sh : Shape) (st : State) (h : List (Event × Reply)) (new : State) → KeptAt sh st → Run sh st h new → GoesTo sh st new
run_goes sh st [] new kept run = subst (GoesTo sh st) (sym run) (stood sh st kept)
run_goes sh st (e ∷ es) new kept run =
    let first = step_goes sh st kept (e.0) (e.1) run.0 run.1 in
    let rest = run_goes sh run.0 es new first.kept run.2 in
    record { kept = rest.kept; stays = λ a f. rest.stays a (first.stays a f) }

pub run_accepts : (sh : Shape) (st : State) (h : List (Event × Reply)) (new : State) (a o : ℕ) → KeptAt sh st → Run sh st h new → Has h (MapDone a o, Accepted) → IsFixed (jobs new) (sets new) a
run_accepts sh st [] new a o kept run here = absurd here
run_accepts sh st (e ∷ es) new a o kept run (inr later) = run_accepts sh run.0 es new a o ((step_goes sh st kept (e.0) (e.1) run.0 run.1).kept) run.2 later
run_accepts sh st (e ∷ es) new a o kept run (inl this) =
    let step : Step sh st (MapDone a o) Accepted run.0 = subst (λ (w : Event × Reply). Step sh st (w.0) (w.1) run.0) this run.1 in
    let rest = run_goes sh run.0 es new ((step_goes sh st kept (MapDone a o) Accepted run.0 step).kept) run.2 in
    rest.stays a (step_accepts sh st kept a o run.0 step)

none_at_opening : (n : ℕ) → sum_by size (map set_of (replicate n (record { skips = []; fixed = false; output = None }))) ≡ 0
none_at_opening zero = refl
none_at_opening (suc n) = none_at_opening n

pub kept_at_opening : (sh : Shape) → KeptAt sh (opening sh)
kept_at_opening sh = record { room = omega (arith, none_at_opening sh.maps); few = λ t. omega arith; grows = λ a s k l e d. absurd (cc e) }

-- the split of an accepted attempt is fixed to what it leaves out
pub fixed_to : (st : State) (a s : ℕ) (k : List ℕ) → IsFixed (jobs st) (sets st) a → IsMapOf st a s k → slice_get (sets st) s ≡ Some (k, true)
fixed_to st a s k f is =
    let seen : slice_get (jobs st) a ≡ Some (job_of is.0) = slice_get-map job_of st.attempts a ∙ ap (option_map job_of) is.1 in
    let parts = some_pair_parts (MapTask f.split) is.0.task f.skips is.0.skips (sym f.job ∙ seen) in
    let task : MapTask f.split ≡ MapTask s = parts.0 ∙ is.2 in
    let split : f.split ≡ s = cc task in
    let skips : f.skips ≡ k = parts.1 ∙ is.3 in
    subst (λ w. slice_get (sets st) w ≡ Some (k, true)) split (f.fixed ∙ ap (λ w. Some (w, true)) skips)
