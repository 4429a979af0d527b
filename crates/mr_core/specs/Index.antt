-- What the indexes beside a state's lists hold; no public clause speaks of them.
use Rattle.std.specs.Prelude.{◌≡◌, ℕ, ◌+◌, ◌-◌, ◌<◌, ◌^◌, Bool, true, false, not, ◌&&◌, ◌==◌, Option, Some, None, List, [], ◌∷◌, ◌++◌, length, slice_get}
use Rattle.std.specs.List.{list_all, count_by}
use Rattle.std.specs.Option.{option_map}
use Rattle.mr_core.specs.declared.event.Shape.{Shape}
use Rattle.mr_core.specs.declared.event.Task.{Task}
use Rattle.mr_core.specs.declared.event.Task.TheVariants.{Map as MapTask, Reduce as ReduceTask}
use Rattle.mr_core.specs.declared.event.Reply.{Reply}
use Rattle.mr_core.specs.declared.event.Reply.TheVariants.{Map}
use Rattle.mr_core.specs.declared.attempts.Count.{Count}
use Rattle.mr_core.specs.Master.{State, Attempt, update_at, task_eq, is_complete, is_stuck, is_task, live}

-- ---- for each task, how many attempts it has had, and how many of them are live

pub record CountsView : Type 0 where
  pub maps : List Count
  pub parts : List Count

abbrev pub no_count : Count
no_count = record { issued = 0; live = 0 }

abbrev pub or_none : Option Count → Count
or_none None = no_count
or_none (Some c) = c

abbrev pub count_of : CountsView → Task → Count
count_of v (MapTask s) = or_none (slice_get v.maps s)
count_of v (ReduceTask p) = or_none (slice_get v.parts p)

abbrev pub begun : Count → Count
begun c = record { issued = c.issued + 1; live = c.live + 1 }

abbrev pub ended : Count → Count
ended c = record { issued = c.issued; live = c.live - 1 }

abbrev pub change_count : (Count → Count) → Task → CountsView → CountsView
change_count f (MapTask s) v = record v { maps = update_at f s v.maps }
change_count f (ReduceTask p) v = record v { parts = update_at f p v.parts }

-- the task is one of these many
abbrev pub IsBelow : ℕ → ℕ → Task → Type 0
IsBelow maps parts (MapTask s) = s < maps
IsBelow maps parts (ReduceTask p) = p < parts

-- as the attempts say
abbrev pub counted : List Attempt → Task → Count
counted xs t = record { issued = count_by (λ a. task_eq a.task t) xs; live = count_by (λ a. task_eq a.task t && a.live) xs }

-- ---- the failures

-- the list with one record more, where there is one
abbrev pub IsLonger : Option (List ℕ) → Option (List ℕ) → ℕ → Type 0
IsLonger None old n = old ≡ None
IsLonger (Some l) old n = (k : List ℕ) × (old ≡ Some k) × (l ≡ k ++ n ∷ [])

-- ---- the attempts

-- the attempts issued, for this many map tasks, reduce tasks and workers
pub record Issued : Type 0 where
  pub items : List Attempt
  pub maps : ℕ
  pub parts : ℕ
  pub workers : ℕ

-- the counts are those of the attempts, and each worker's entry is its live attempt, where it has one
pub record IsIndexed (xs : List Attempt) (v : CountsView) (current : List (Option ℕ)) : Type 0 where
  pub counts : (t : Task) → count_of v t ≡ counted xs t
  pub there : (w a : ℕ) → slice_get current w ≡ Some (Some a) → (x : Attempt) × (slice_get xs a ≡ Some x) × (x.live ≡ true) × (x.worker ≡ w)
  pub all : (a : ℕ) (x : Attempt) → slice_get xs a ≡ Some x → x.live ≡ true → slice_get current x.worker ≡ Some (Some a)

abbrev pub entry : Option (Option ℕ) → Option ℕ
entry None = None
entry (Some o) = o

-- the attempt of this number is live, and of this worker
abbrev pub IsCurrent : List Attempt → ℕ → ℕ → Type 0
IsCurrent xs w a = (x : Attempt) × (slice_get xs a ≡ Some x) × (x.live ≡ true) × (x.worker ≡ w)

-- ---- the whole

-- a task that isn't complete, and that nobody works at
abbrev pub is_idle : State → Task → Bool
is_idle st t = not (is_complete st t) && (live st t == 0)

-- the attempts are those of the state's tasks and workers, and below the two cursors no task is idle
pub record IsTabled (st : State) (issued : Issued) (next_map next_part : ℕ) : Type 0 where
  pub maps : issued.maps ≡ length st.splits
  pub parts : issued.parts ≡ length st.committed
  pub workers : issued.workers ≡ length st.lost
  pub idle_maps : (s : ℕ) → s < next_map → is_idle st (MapTask s) ≡ false
  pub idle_parts : (p : ℕ) → p < next_part → is_idle st (ReduceTask p) ≡ false

-- what holds before an event of a job that goes on
pub record IsGoing (sh : Shape) (st : State) : Type 0 where
  pub few : length st.attempts < 2 ^ 31
  pub splits : length st.splits ≡ sh.maps
  pub parts : length st.committed ≡ sh.parts
  pub tasks : (a : ℕ) (x : Attempt) → slice_get st.attempts a ≡ Some x → is_task sh x.task ≡ true
  pub active : list_all (λ x. x) st.lost ≡ false
  pub whole : (t : Task) → is_task sh t ≡ true → is_stuck sh st t ≡ false

-- the task of the attempt of this number
abbrev pub task_at : State → ℕ → Option Task
task_at st a = option_map (λ x. x.task) (slice_get st.attempts a)

-- what is known after an event that touched no task but these two
pub record IsTouched (sh : Shape) (st : State) (task other : Option Task) : Type 0 where
  pub active : list_all (λ x. x) st.lost ≡ false
  pub here : (t : Task) → task ≡ Some t → is_task sh t ≡ true
  pub also : (t : Task) → other ≡ Some t → is_task sh t ≡ true
  pub others : (t : Task) → is_task sh t ≡ true → (task ≡ Some t → ⊥) → (other ≡ Some t → ⊥) → is_stuck sh st t ≡ false

-- a reply with no list
abbrev pub IsPlain : Reply → Type 0
IsPlain (Map a s k) = ⊥
IsPlain _ = Unit {0}
