-- Tasks that one worker executes alone.
use Rattle.std.proofs.Common.{◌≡◌, ℕ, suc, ◌<◌, ◌≤◌, ◌+◌, Option, Some, List, [], ◌∷◌, slice_get, refl, ap, sym, ◌∙◌, inl, inr, arith, Bool, true, false, cond, not, ◌&&◌, ◌==◌, nat_lt}
use Rattle.std.specs.List.{list_any, count_by}
use Rattle.std.proofs.lemmas.Bool.{and_parts, cases_eq, true≢false, eqb-true}
use Rattle.std.proofs.lemmas.List.Sums.{sum_by-cons}
use Rattle.mr_core.specs.declared.event.Task.{Task}
use Rattle.mr_core.specs.declared.event.Shape.{Shape}
use Rattle.mr_core.specs.declared.event.Task.TheVariants.{Map as MapTask, Reduce as ReduceTask}
use Rattle.mr_core.specs.Master.{State, Attempt, tasks, task_eq, is_open, is_complete, issued, live, maps_complete}
use Rattle.mr_core.specs.Queries.{is_lone, is_ready}
use Rattle.mr_core.proofs.EndTests.{none_of_tasks}
use Rattle.mr_core.proofs.Indexed.{same_task}

split : (sh : Shape) (st : State) (t : Task) → is_lone sh st t ≡ (not (is_complete st t) && (nat_lt (issued st t) sh.limits.attempts && ((live st t == 1) && is_ready st t)))
split sh st (MapTask s) = by (is_complete st (MapTask s)) (nat_lt (issued st (MapTask s)) sh.limits.attempts) (live st (MapTask s) == 1)
  where
    by : (c f l : Bool) → ((not c && f) && l) ≡ (not c && (f && (l && true)))
    by true f l = refl
    by false true true = refl
    by false true false = refl
    by false false l = refl
split sh st (ReduceTask p) = by (is_complete st (ReduceTask p)) (nat_lt (issued st (ReduceTask p)) sh.limits.attempts) (live st (ReduceTask p) == 1) (maps_complete st)
  where
    by : (c f l m : Bool) → ((not c && (f && m)) && l) ≡ (not c && (f && (l && m)))
    by true f l m = refl
    by false true true true = refl
    by false true true false = refl
    by false true false true = refl
    by false true false false = refl
    by false false l m = refl

pub lone_no : (sh : Shape) (st : State) (t : Task) (c f l : Bool) → c ≡ is_complete st t → f ≡ nat_lt (issued st t) sh.limits.attempts → l ≡ (live st t == 1) → (not c && (f && l)) ≡ false → false ≡ is_lone sh st t
lone_no sh st t c f l a b d closed =
    by c f l (is_ready st t) closed
    ∙ ap (λ x. not x && (f && (l && is_ready st t))) a ∙ ap (λ x. not (is_complete st t) && (x && (l && is_ready st t))) b ∙ ap (λ x. not (is_complete st t) && (nat_lt (issued st t) sh.limits.attempts && (x && is_ready st t))) d
    ∙ sym (split sh st t)
  where
    by : (c f l r : Bool) → (not c && (f && l)) ≡ false → false ≡ (not c && (f && (l && r)))
    by true f l r e = refl
    by false false l r e = refl
    by false true false r e = refl
    by false true true r e = absurd (true≢false e)

pub lone_yes : (sh : Shape) (st : State) (t : Task) → is_complete st t ≡ false → nat_lt (issued st t) sh.limits.attempts ≡ true → (live st t == 1) ≡ true → is_ready st t ≡ is_lone sh st t
lone_yes sh st t c f l = sym (split sh st t ∙ rw (c, f, l) refl)

-- one that is counted is there
some_there : (p : Attempt → Bool) (xs : List Attempt) → 1 ≤ count_by p xs → (a : ℕ) × (x : Attempt) × (slice_get xs a ≡ Some x) × (p x ≡ true)
some_there p [] h = absurd (omega arith)
some_there p (x ∷ xs) h = by (p x) refl (some_there p xs)
  where
    by : (b : Bool) → p x ≡ b → (1 ≤ count_by p xs → (a : ℕ) × (y : Attempt) × (slice_get xs a ≡ Some y) × (p y ≡ true)) → (a : ℕ) × (y : Attempt) × (slice_get (x ∷ xs) a ≡ Some y) × (p y ≡ true)
    by true e rest = (0, x, refl, e)
    by false e rest =
        let none : ◌≡◌ {A = ℕ} (cond (p x) 1 0) 0 = ap (λ b. cond b 1 0) e in
        let r = rest (omega (arith, h, none, sum_by-cons (λ y. cond (p y) 1 0) x xs)) in
        (suc r.0, r.1, r.2, r.3)

-- where none of the tasks that workers execute is alone at its worker, none is
pub none_lone : (sh : Shape) (st : State) → ((a : ℕ) (x : Attempt) → slice_get st.attempts a ≡ Some x → x.live ≡ true → is_lone sh st x.task ≡ false) → list_any (is_lone sh st) (tasks sh) ≡ false
none_lone sh st none = none_of_tasks (is_lone sh st) sh (λ t is. by t (is_lone sh st t) refl)
  where
    by : (t : Task) (b : Bool) → is_lone sh st t ≡ b → b ≡ false
    by t false e = refl
    by t true e =
        let one : live st t ≡ 1 = eqb-true (live st t) 1 ((and_parts (is_open sh st t) (live st t == 1) e).1) in
        let r = some_there (λ a. task_eq a.task t && a.live) st.attempts (omega (arith, one)) in
        let both = and_parts (task_eq r.1.task t) r.1.live r.3 in
        absurd (true≢false (sym e ∙ ap (is_lone sh st) (sym (same_task r.1.task t both.0)) ∙ none r.0 r.1 r.2 both.1))

-- one worker more
pub lone_more : (sh : Shape) (st : State) (w : ℕ) (r : Option Task) → ((a : ℕ) (x : Attempt) → x.worker < w → slice_get st.attempts a ≡ Some x → x.live ≡ true → is_lone sh st x.task ≡ false)
    → ((a : ℕ) (x : Attempt) → slice_get st.attempts a ≡ Some x → x.live ≡ true → x.worker ≡ w → r ≡ Some x.task) → ((t : Task) → r ≡ Some t → is_lone sh st t ≡ false)
    → (a : ℕ) (x : Attempt) → x.worker < w + 1 → slice_get st.attempts a ≡ Some x → x.live ≡ true → is_lone sh st x.task ≡ false
lone_more sh st w r below only here a x less at live =
    elim (cases_eq x.worker w) [
      | inl same ↦ here x.task (only a x at live same)
      | inr other ↦ below a x (omega (arith, less, other)) at live
    ]
