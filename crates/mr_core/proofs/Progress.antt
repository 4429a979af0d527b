-- While a job goes on, live attempts are of active workers, and where none is live a task may be given.
use Rattle.std.proofs.Common.{◌≡◌, ℕ, zero, suc, ◌+◌, ◌<◌, ◌≤◌, Option, Some, None, List, [], ◌∷◌, ◌++◌, length, map, replicate, slice_get, refl, ap, sym, ◌∙◌, subst, inl, inr, arith, Bool, true, false, cond, not, ◌&&◌, ◌||◌, is_some, nat_lt, ◌==◌, eqb, ltb}
use Rattle.std.specs.List.{list_all, list_any, AllByRecursion, count_by, range_with_len}
use Rattle.std.specs.Option.{option_map_or}
use Rattle.std.proofs.lemmas.Bool.{and_parts, lt-ltb, not-true, or_parts, eq-eqb, cases_eq, false≢true, true≢false}
use Rattle.std.proofs.lemmas.List.{length-map, length-replicate}
use Rattle.std.proofs.lemmas.List.Sums.{sum_by-cons}
use Rattle.mr_core.specs.declared.event.Task.{Task}
use Rattle.mr_core.specs.declared.event.Event.{Event}
use Rattle.mr_core.specs.declared.event.Reply.{Reply}
use Rattle.mr_core.specs.declared.event.End.{End}
use Rattle.mr_core.specs.declared.event.Shape.{Shape}
use Rattle.mr_core.specs.declared.entries.Split.{Split}
use Rattle.mr_core.specs.Master.{State, Attempt, Step, Run, opening, update_at, issue, left_by, end_of, may_give, may_newly, may_backup, is_open, is_complete, is_active, is_stuck, is_task, has_live, live, issued, maps_complete, tasks, task_eq}
use Rattle.mr_core.specs.declared.event.Task.TheVariants.{Map as MapTask, Reduce as ReduceTask}
use Rattle.mr_core.proofs.Places.{get-update_other}
use Rattle.mr_core.proofs.StepCases.{Rule, step_case}

-- ---- lists

pub length-update : {X : Type 0} (f : X → X) (i : ℕ) (xs : List X) → length (update_at f i xs) ≡ length xs
length-update f i [] = refl
length-update f zero (x ∷ xs) = refl
length-update f (suc i) (x ∷ xs) = ap suc (length-update f i xs)

none_of_both : {X : Type 0} (p : X → Bool) (xs ys : List X) → list_any p (xs ++ ys) ≡ false → (list_any p xs ≡ false) × (list_any p ys ≡ false)
none_of_both p [] ys e = (refl, e)
none_of_both p (x ∷ xs) ys e =
    let head = or_parts (p x) (list_any p (xs ++ ys)) e in
    let rest = none_of_both p xs ys head.1 in
    (rw head.0 rest.0, rest.1)

none_in_range : {X : Type 0} (p : X → Bool) (f : ℕ → X) (a n i : ℕ) → list_any p (map f (range_with_len a n)) ≡ false → i < n → p (f (a + i)) ≡ false
none_in_range p f a zero i e l = absurd (omega arith)
none_in_range p f a (suc n) zero e l = let same : a + 0 ≡ a = omega arith in ap (λ w. p (f w)) same ∙ (or_parts (p (f a)) _ e).0
none_in_range p f a (suc n) (suc i) e l = let same : a + suc i ≡ a + 1 + i = omega arith in ap (λ w. p (f w)) same ∙ none_in_range p f (a + 1) n i ((or_parts (p (f a)) _ e).1) (omega arith)

none_of_each : {X : Type 0} (p : X → Bool) (xs : List X) → ((x : X) → p x ≡ false) → list_any p xs ≡ false
none_of_each p [] f = refl
none_of_each p (x ∷ xs) f = rw (f x) (none_of_each p xs f)

all_from_places : {X : Type 0} (p : X → Bool) (xs : List X) → ((i : ℕ) → i < length xs → option_map_or p (slice_get xs i) false ≡ true) → list_all p xs ≡ true
all_from_places p [] f = refl
all_from_places p (x ∷ xs) f = let here : p x ≡ true = f 0 (omega arith) in rw here (all_from_places p xs (λ i l. f (suc i) (omega arith)))

-- ---- what every change keeps

abbrev pub IsOfActive : List Bool → Attempt → Type 0
IsOfActive lost a = a.live ≡ true → slice_get lost a.worker ≡ Some false

-- the task is one of the job's
abbrev pub IsOfShape : Shape → Attempt → Type 0
IsOfShape sh a = is_task sh a.task ≡ true

pub record Sound (sh : Shape) (st : State) : Type 0 where
  pub splits_long : length st.splits ≡ sh.maps
  pub parts_long : length st.committed ≡ sh.parts
  pub of_active : AllByRecursion (IsOfActive st.lost) st.attempts
  pub of_shape : AllByRecursion (IsOfShape sh) st.attempts

-- committed outputs stay
abbrev pub Stays : State → State → Type 0
Stays old new = (p o : ℕ) → slice_get old.committed p ≡ Some (Some o) → slice_get new.committed p ≡ Some (Some o)

abbrev pub Keeps : Shape → State → State → Type 0
Keeps sh old new = Sound sh new × Stays old new

pub all_update : {X : Type 0} (P : X → Type 0) (f : X → X) → ((x : X) → P x → P (f x)) → (i : ℕ) (xs : List X) → AllByRecursion P xs → AllByRecursion P (update_at f i xs)
all_update P f g i [] a = tt
all_update P f g zero (x ∷ xs) a = (g x a.0, a.1)
all_update P f g (suc i) (x ∷ xs) a = (a.0, all_update P f g i xs a.1)

pub all_push : {X : Type 0} (P : X → Type 0) (xs : List X) (y : X) → AllByRecursion P xs → P y → AllByRecursion P (xs ++ y ∷ [])
all_push P [] y a b = (b, tt)
all_push P (x ∷ xs) y a b = (a.0, all_push P xs y a.1 b)

active_is : (x : Option Bool) → option_map_or not x false ≡ true → x ≡ Some false
active_is None e = absurd (false≢true e)
active_is (Some true) e = absurd (false≢true e)
active_is (Some false) e = refl

module _ (sh : Shape) (st : State) (sound : Sound sh st) where
  ended_active : (a : ℕ) → AllByRecursion (IsOfActive st.lost) (update_at (λ t. record t { live = false }) a st.attempts)
  ended_active a = all_update (IsOfActive st.lost) (λ t. record t { live = false }) (λ t p e. absurd (false≢true e)) a st.attempts sound.of_active

  ended_shape : (a : ℕ) → AllByRecursion (IsOfShape sh) (update_at (λ t. record t { live = false }) a st.attempts)
  ended_shape a = all_update (IsOfShape sh) (λ t. record t { live = false }) (λ t e. e) a st.attempts sound.of_shape

  lost_shape : (w : ℕ) (xs : List Attempt) → AllByRecursion (IsOfShape sh) xs → AllByRecursion (IsOfShape sh) (map (left_by w) xs)
  lost_shape w [] a = tt
  lost_shape w (x ∷ xs) a = (a.0, lost_shape w xs a.1)

  lost_active : (w : ℕ) (xs : List Attempt) → AllByRecursion (IsOfActive st.lost) xs → AllByRecursion (IsOfActive (update_at (λ x. true) w st.lost)) (map (left_by w) xs)
  lost_active w [] a = tt
  lost_active w (x ∷ xs) a = (
    λ e.
        let both = and_parts x.live (not (eqb x.worker w)) e in
        let other : w ≡ x.worker → ⊥ = λ d. false≢true (sym (not-true (eqb x.worker w) both.1) ∙ eq-eqb x.worker w (sym d)) in
        get-update_other (λ x. true) w x.worker st.lost other ∙ a.0 both.0,
    lost_active w xs a.1,
  )

  issue_active : (w : ℕ) (t : Task) (k : List ℕ) → is_active st w ≡ true → may_give sh st w t ≡ true → Keeps sh st (issue w t k sh st)
  issue_active w t k act may = (record { splits_long = sound.splits_long; parts_long = sound.parts_long; of_active = all_push (IsOfActive st.lost) st.attempts _ sound.of_active (λ e. active_is (slice_get st.lost w) act); of_shape = all_push (IsOfShape sh) st.attempts _ sound.of_shape ((and_parts (is_task sh t) (not (has_live st w) && (may_newly sh st t || may_backup sh st t)) may).0) }, λ p o e. e)

  commit_stays : (a o p q x : ℕ) → is_complete st (ReduceTask p) ≡ false → slice_get st.committed q ≡ Some (Some x) → slice_get (update_at (λ y. Some o) p st.committed) q ≡ Some (Some x)
  commit_stays a o p q x e h =
      elim (cases_eq p q) [
        | inl same ↦ absurd (true≢false (sym (ap (λ w. option_map_or is_some w false) (ap (slice_get st.committed) same ∙ h)) ∙ e))
        | inr other ↦ get-update_other (λ y. Some o) p q st.committed other ∙ h
      ]

  keeps_rule : Rule sh st (λ e r new. Keeps sh st new)
  keeps_rule = record {
    stays = λ e r n. (sound, λ p o e. e);
    finishes = λ e r a n. (record { splits_long = sound.splits_long; parts_long = sound.parts_long; of_active = ended_active a; of_shape = ended_shape a }, λ p o e. e);
    fetches = λ a m p at sp o l t s e. (record { splits_long = sound.splits_long; parts_long = sound.parts_long; of_active = all_update (IsOfActive st.lost) (λ t. record t { fetched = update_at (λ x. Some (o.0)) m t.fetched }) (λ t p. p) a st.attempts sound.of_active; of_shape = all_update (IsOfShape sh) (λ t. record t { fetched = update_at (λ x. Some (o.0)) m t.fetched }) (λ t p. p) a st.attempts sound.of_shape }, λ p o e. e);
    completes = λ a o s at l t e. (record { splits_long = length-update _ s st.splits ∙ sound.splits_long; parts_long = sound.parts_long; of_active = ended_active a; of_shape = ended_shape a }, λ p o e. e);
    notes = λ a s r. (record { splits_long = sound.splits_long; parts_long = sound.parts_long; of_active = ended_active a; of_shape = ended_shape a }, λ p o e. e);
    leaves = λ a s r at v t m l. (record { splits_long = length-update _ s st.splits ∙ sound.splits_long; parts_long = sound.parts_long; of_active = ended_active a; of_shape = ended_shape a }, λ p o e. e);
    commits = λ a o p at l t e f. (record { splits_long = sound.splits_long; parts_long = length-update _ p st.committed ∙ sound.parts_long; of_active = ended_active a; of_shape = ended_shape a }, λ q x h. commit_stays a o p q x e h);
    loses = λ w act. (record { splits_long = length-map st.splits _ ∙ sound.splits_long; parts_long = sound.parts_long; of_active = lost_active w st.attempts sound.of_active; of_shape = lost_shape w st.attempts sound.of_shape }, λ p o e. e);
    damages = λ a m p o at l t e. (record { splits_long = length-update _ m st.splits ∙ sound.splits_long; parts_long = sound.parts_long; of_active = ended_active a; of_shape = ended_shape a }, λ p o e. e);
    issues_map = λ w a s k act m l. issue_active w (MapTask s) k act m;
    issues_reduce = λ w a p act m. issue_active w (ReduceTask p) [] act m;
  }

-- ---- what the tests of the ends say

pub record GoesOn (sh : Shape) (st : State) : Type 0 where
  pub not_done : list_all is_some st.committed ≡ false
  pub none_stuck : list_any (is_stuck sh st) (tasks sh) ≡ false

no_end : (sh : Shape) (st : State) (over : Bool) → end_of sh st over ≡ None → GoesOn sh st
no_end sh st over e = by (list_all is_some st.committed) refl (list_all (λ x. x) st.lost) over (list_any (is_stuck sh st) (tasks sh)) refl e
  where
    by : (b : Bool) → list_all is_some st.committed ≡ b → (c d f : Bool) → list_any (is_stuck sh st) (tasks sh) ≡ f
        → cond b (Some End.Done) (cond c (Some (End.Failed Rattle.mr_core.specs.declared.event.JobFault.JobFault.NoWorkers)) (cond d (Some (End.Failed Rattle.mr_core.specs.declared.event.JobFault.JobFault.TooManySkips)) (cond f (Some (End.Failed Rattle.mr_core.specs.declared.event.JobFault.JobFault.TooManyAttempts)) None))) ≡ None → GoesOn sh st
    by false a false false false f e = record { not_done = a; none_stuck = f }
    by true a c d f g e = absurd (cc e)
    by false a true d f g e = absurd (cc e)
    by false a false true f g e = absurd (cc e)
    by false a false false true g e = absurd (cc e)

end_done : (sh : Shape) (st : State) (over : Bool) → end_of sh st over ≡ Some End.Done → list_all is_some st.committed ≡ true
end_done sh st over e = by (list_all is_some st.committed) (list_all (λ x. x) st.lost) over (list_any (is_stuck sh st) (tasks sh)) e
  where
    by : (b c d f : Bool) → cond b (Some End.Done) (cond c (Some (End.Failed Rattle.mr_core.specs.declared.event.JobFault.JobFault.NoWorkers)) (cond d (Some (End.Failed Rattle.mr_core.specs.declared.event.JobFault.JobFault.TooManySkips)) (cond f (Some (End.Failed Rattle.mr_core.specs.declared.event.JobFault.JobFault.TooManyAttempts)) None))) ≡ Some End.Done → b ≡ true
    by true c d f e = refl
    by false true d f e = absurd (cc e)
    by false false true f e = absurd (cc e)
    by false false false true e = absurd (cc e)
    by false false false false e = absurd (cc e)

pub record Going (sh : Shape) (st : State) : Type 0 where
  pub sound : Sound sh st
  pub goes_on : st.end ≡ None → GoesOn sh st
  pub done : st.end ≡ Some End.Done → list_all is_some st.committed ≡ true

pub step_going : (sh : Shape) (st : State) (e : Event) (r : Reply) (new : State) → Going sh st → Step sh st e r new → Going sh new × Stays st new
step_going sh st e r new going step =
    elim (step_case sh st (λ e r new. Keeps sh st new) (keeps_rule sh st going.sound) e r new step) [
      | inl same ↦ (subst (Going sh) (sym same.0) going, λ p o h. ap (λ (w : State). slice_get w.committed p) same.0 ∙ h)
      | inr s ↦ (
        subst (Going sh) (sym s.is) (record { sound = record { splits_long = s.holds.0.splits_long; parts_long = s.holds.0.parts_long; of_active = s.holds.0.of_active; of_shape = s.holds.0.of_shape }; goes_on = λ e. let g = no_end sh s.mid s.over e in record { not_done = g.not_done; none_stuck = g.none_stuck }; done = end_done sh s.mid s.over }),
        λ p o h. ap (λ (w : State). slice_get w.committed p) s.is ∙ s.holds.1 p o h,
      )
    ]

pub run_going : (sh : Shape) (st : State) (h : List (Event × Reply)) (new : State) → Going sh st → Run sh st h new → Going sh new × Stays st new
run_going sh st [] new going run = (subst (Going sh) (sym run) going, λ p o e. ap (λ (w : State). slice_get w.committed p) run ∙ e)
run_going sh st (e ∷ es) new going run =
    let first = step_going sh st (e.0) (e.1) run.0 going run.1 in
    let rest = run_going sh run.0 es new first.0 run.2 in
    (rest.0, λ p o h. rest.1 p o (first.1 p o h))

-- ---- where none is live, a task may be given

-- an open task, in one test; complete: c, fewer attempts than there may be: f, nobody at it, and not stuck
must_be_complete : (c f : Bool) → (not c && (true && not f)) ≡ false → (not c && f) ≡ false → c ≡ true
must_be_complete true f e d = refl
must_be_complete false true e d = absurd (true≢false d)
must_be_complete false false e d = absurd (true≢false e)

plain : (c f : Bool) → (not c && (f && true)) ≡ false → (not c && f) ≡ false
plain true f e = refl
plain false true e = e
plain false false e = refl

none_live : (t : Task) (xs : List Attempt) → list_any (λ a. a.live) xs ≡ false → count_by (λ a. task_eq a.task t && a.live) xs ≡ 0
none_live t [] e = refl
none_live t (x ∷ xs) e =
    let both = or_parts x.live (list_any (λ a. a.live) xs) e in
    let not_here : (task_eq x.task t && x.live) ≡ false = by (task_eq x.task t) x.live both.0 in
    let zero_here : ◌≡◌ {A = ℕ} (cond (task_eq x.task t && x.live) 1 0) 0 = ap (λ b. cond b 1 0) not_here in
    omega (arith, sum_by-cons (λ a. cond (task_eq a.task t && a.live) 1 0) x xs, zero_here, none_live t xs both.1)
  where
    by : (b c : Bool) → c ≡ false → (b && c) ≡ false
    by true c e = e
    by false c e = refl

no_own : (w : ℕ) (xs : List Attempt) → list_any (λ a. a.live) xs ≡ false → list_any (λ a. (a.worker == w) && a.live) xs ≡ false
no_own w [] e = refl
no_own w (x ∷ xs) e =
    let both = or_parts x.live (list_any (λ a. a.live) xs) e in
    let not_here : ((x.worker == w) && x.live) ≡ false = by (x.worker == w) x.live both.0 in
    rw not_here (no_own w xs both.1)
  where
    by : (b c : Bool) → c ≡ false → (b && c) ≡ false
    by true c e = e
    by false c e = refl

module _ (sh : Shape) (st : State) (going : Going sh st) (on : GoesOn sh st) (w : ℕ) (act : is_active st w ≡ true) (idle : list_any (λ (a : Attempt). a.live) st.attempts ≡ false) where
  -- a task that may not be given though nobody works isn't open
  not_open : (t : Task) → is_task sh t ≡ true → may_give sh st w t ≡ false → is_open sh st t ≡ false
  not_open t task e = by (is_open sh st t) refl
    where
      by : (b : Bool) → is_open sh st t ≡ b → b ≡ false
      by false is = refl
      by true is =
          let own : has_live st w ≡ false = no_own w st.attempts idle in
          let nobody : eqb (live st t) 0 ≡ true = eq-eqb _ 0 (none_live t st.attempts idle) in
          let new : may_newly sh st t ≡ true = rw is nobody in
          let may : may_give sh st w t ≡ true = rw (task, own, new) refl in
          absurd (true≢false (sym may ∙ e))

  not_stuck : (t : Task) → is_stuck sh st t ≡ false → (not (is_complete st t) && (true && not (nat_lt (issued st t) sh.limits.attempts))) ≡ false
  not_stuck t e = let nobody : eqb (live st t) 0 ≡ true = eq-eqb _ 0 (none_live t st.attempts idle) in subst (λ b. (not (is_complete st t) && (b && not (nat_lt (issued st t) sh.limits.attempts))) ≡ false) nobody e

  pub may_be_given : list_any (may_give sh st w) (tasks sh) ≡ true
  may_be_given = by (list_any (may_give sh st w) (tasks sh)) refl
    where
      by : (b : Bool) → list_any (may_give sh st w) (tasks sh) ≡ b → b ≡ true
      by true e = refl
      by false e =
          let given = none_of_both (may_give sh st w) (map MapTask (range_with_len 0 sh.maps)) (map ReduceTask (range_with_len 0 sh.parts)) e in
          let stuck = none_of_both (is_stuck sh st) (map MapTask (range_with_len 0 sh.maps)) (map ReduceTask (range_with_len 0 sh.parts)) on.none_stuck in
          let maps : (s : ℕ) → s < sh.maps → is_complete st (MapTask s) ≡ true = λ s l.
          let zero_s : 0 + s ≡ s = omega arith in
          let g : may_give sh st w (MapTask s) ≡ false = ap (λ v. may_give sh st w (MapTask v)) (sym zero_s) ∙ none_in_range (may_give sh st w) MapTask 0 sh.maps s given.0 l in
          let k : is_stuck sh st (MapTask s) ≡ false = ap (λ v. is_stuck sh st (MapTask v)) (sym zero_s) ∙ none_in_range (is_stuck sh st) MapTask 0 sh.maps s stuck.0 l in
          must_be_complete (is_complete st (MapTask s)) (nat_lt (issued st (MapTask s)) sh.limits.attempts) (not_stuck (MapTask s) k) (not_open (MapTask s) (lt-ltb s sh.maps l) g) in
          let all_maps : maps_complete st ≡ true = all_from_places (λ (sp : Split). is_some sp.output) st.splits (λ s l. maps s (omega (arith, going.sound.splits_long))) in
          let reduces : (p : ℕ) → p < sh.parts → is_complete st (ReduceTask p) ≡ true = λ p l.
          let zero_p : 0 + p ≡ p = omega arith in
          let g : may_give sh st w (ReduceTask p) ≡ false = ap (λ v. may_give sh st w (ReduceTask v)) (sym zero_p) ∙ none_in_range (may_give sh st w) ReduceTask 0 sh.parts p given.1 l in
          let k : is_stuck sh st (ReduceTask p) ≡ false = ap (λ v. is_stuck sh st (ReduceTask v)) (sym zero_p) ∙ none_in_range (is_stuck sh st) ReduceTask 0 sh.parts p stuck.1 l in
          let closed : (not (is_complete st (ReduceTask p)) && (nat_lt (issued st (ReduceTask p)) sh.limits.attempts && true)) ≡ false = subst (λ b. (not (is_complete st (ReduceTask p)) && (nat_lt (issued st (ReduceTask p)) sh.limits.attempts && b)) ≡ false) all_maps (not_open (ReduceTask p) (lt-ltb p sh.parts l) g) in
          must_be_complete (is_complete st (ReduceTask p)) (nat_lt (issued st (ReduceTask p)) sh.limits.attempts) (not_stuck (ReduceTask p) k) (plain (is_complete st (ReduceTask p)) (nat_lt (issued st (ReduceTask p)) sh.limits.attempts) closed) in
          let all_done : list_all is_some st.committed ≡ true = all_from_places is_some st.committed (λ p l. reduces p (omega (arith, going.sound.parts_long))) in
          absurd (true≢false (sym all_done ∙ on.not_done))

-- ---- the opening

pub going_at_opening : (sh : Shape) → 1 ≤ sh.parts → 1 ≤ sh.limits.attempts → Going sh (opening sh)
going_at_opening sh parts attempts = record {
  sound = record { splits_long = length-replicate sh.maps _; parts_long = length-replicate sh.parts _; of_active = tt; of_shape = tt };
  goes_on = λ e. record { not_done = undone sh.parts parts; none_stuck = none_of_each (is_stuck sh (opening sh)) (tasks sh) free };
  done = λ e. absurd (cc e);
}
  where
    undone : (n : ℕ) → 1 ≤ n → (let none : Option ℕ = None in list_all is_some (replicate n none)) ≡ false
    undone zero l = absurd (omega arith)
    undone (suc n) l = refl

    free : (t : Task) → is_stuck sh (opening sh) t ≡ false
    free t = let less : ltb 0 sh.limits.attempts ≡ true = lt-ltb 0 sh.limits.attempts attempts in by (is_complete (opening sh) t) (ltb 0 sh.limits.attempts) less
      where
        by : (c f : Bool) → f ≡ true → (not c && (true && not f)) ≡ false
        by true f e = refl
        by false true e = refl
        by false false e = absurd (false≢true e)
