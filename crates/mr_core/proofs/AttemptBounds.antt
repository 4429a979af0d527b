-- All attempts of a run are few: each is of one of the job's tasks, and each task has few.
use Rattle.std.proofs.Common.{◌≡◌, ℕ, ◌<◌, ◌≤◌, ◌+◌, ◌*◌, ◌^◌, List, [], ◌∷◌, length, refl, arith, Bool, true, false, cond, ◌||◌, eq-eqb, map}
use Rattle.std.specs.List.{list_any, AllByRecursion, count_by, sum_by, range_with_len}
use Rattle.std.proofs.lemmas.Bool.{false≢true}
use Rattle.std.proofs.lemmas.List.{length-append}
use Rattle.std.proofs.lemmas.List.FromFn.{length-map-range_with_len}
use Rattle.std.proofs.lemmas.List.Sums.{sum_by-cons}
use Rattle.mr_core.specs.declared.event.Task.{Task}
use Rattle.mr_core.specs.declared.event.Task.TheVariants.{Map as MapTask, Reduce as ReduceTask}
use Rattle.mr_core.specs.declared.event.Shape.{Shape}
use Rattle.mr_core.specs.Master.{State, Attempt, opening, tasks, task_eq}
use Rattle.mr_core.specs.Core.{InLimits, IsReached}
use Rattle.mr_core.proofs.TaskSearch.{one_of_all}
use Rattle.mr_core.proofs.Progress.{IsOfShape, run_going, going_at_opening}
use Rattle.mr_core.proofs.Steps.{run_goes, kept_at_opening, issued-is}

-- the attempts of a task
abbrev of_task : List Attempt → Task → ℕ
of_task xs t = count_by (λ (a : Attempt). task_eq a.task t) xs

abbrev total : List Task → List Attempt → ℕ
total ts xs = sum_by (of_task xs) ts

one_more : (x : Attempt) (xs : List Attempt) (ts : List Task) → total ts (x ∷ xs) ≡ count_by (task_eq x.task) ts + total ts xs
one_more x xs [] = refl
one_more x xs (t ∷ ts) = omega (arith, sum_by-cons (of_task (x ∷ xs)) t ts, sum_by-cons (of_task xs) t ts, sum_by-cons (λ u. cond (task_eq x.task u) 1 0) t ts, sum_by-cons (λ (a : Attempt). cond (task_eq a.task t) 1 0) x xs, one_more x xs ts)

is_there : (p : Task → Bool) (ts : List Task) → list_any p ts ≡ true → 1 ≤ count_by p ts
is_there p [] e = absurd (false≢true e)
is_there p (t ∷ ts) e = by (p t) refl e (is_there p ts)
  where
    by : (b : Bool) → p t ≡ b → (b || list_any p ts) ≡ true → (list_any p ts ≡ true → 1 ≤ count_by p ts) → 1 ≤ count_by p (t ∷ ts)
    by true is e rest = let one : ◌≡◌ {A = ℕ} (cond (p t) 1 0) 1 = rw is refl in omega (arith, one, sum_by-cons (λ u. cond (p u) 1 0) t ts)
    by false is e rest = let none : ◌≡◌ {A = ℕ} (cond (p t) 1 0) 0 = rw is refl in omega (arith, none, rest e, sum_by-cons (λ u. cond (p u) 1 0) t ts)

all_counted : (ts : List Task) (xs : List Attempt) → AllByRecursion (λ (a : Attempt). list_any (task_eq a.task) ts ≡ true) xs → length xs ≤ total ts xs
all_counted ts [] all = omega arith
all_counted ts (x ∷ xs) all = omega (arith, one_more x xs ts, is_there (task_eq x.task) ts all.0, all_counted ts xs all.1)

at_most : (xs : List Attempt) (ts : List Task) → ((t : Task) → of_task xs t ≤ 16) → total ts xs ≤ 16 * length ts
at_most xs [] few = omega arith
at_most xs (t ∷ ts) few = omega (arith, sum_by-cons (of_task xs) t ts, few t, at_most xs ts few)

same_task : (t : Task) → task_eq t t ≡ true
same_task (MapTask s) = eq-eqb s s refl
same_task (ReduceTask p) = eq-eqb p p refl

all_of_shape : (sh : Shape) (xs : List Attempt) → AllByRecursion (IsOfShape sh) xs → AllByRecursion (λ (a : Attempt). list_any (task_eq a.task) (tasks sh) ≡ true) xs
all_of_shape sh [] all = tt
all_of_shape sh (x ∷ xs) all = (one_of_all (task_eq x.task) sh x.task all.0 (same_task x.task), all_of_shape sh xs all.1)

length-tasks : (sh : Shape) → length (tasks sh) ≡ sh.maps + sh.parts
length-tasks sh = omega (arith, length-append (map MapTask (range_with_len 0 sh.maps)) (map ReduceTask (range_with_len 0 sh.parts)), length-map-range_with_len MapTask 0 sh.maps, length-map-range_with_len ReduceTask 0 sh.parts)

pub attempts_few : (sh : Shape) (st : State) → InLimits sh → IsReached sh st → length st.attempts < 2 ^ 31
attempts_few sh st limits h =
    let going = (run_going sh (opening sh) h.0 st (going_at_opening sh limits.parts.0 limits.attempts.0) h.1).0 in
    let kept = (run_goes sh (opening sh) h.0 st (kept_at_opening sh) h.1).kept in
    let few : (t : Task) → of_task st.attempts t ≤ 16 = λ t. omega (arith, issued-is st t, kept.few t, limits.attempts.1) in
    omega (arith, all_counted (tasks sh) st.attempts (all_of_shape sh st.attempts going.sound.of_shape), at_most st.attempts (tasks sh) few, length-tasks sh, limits.maps, limits.parts.1)
