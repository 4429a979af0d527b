-- What is promised of each run of the master (OSDI 2004, sections 3.3, 3.6 and "Skipping Bad Records").
use Rattle.std.specs.Prelude.{◌≡◌, ℕ, ◌≤◌, true, false, Some, None, List, ◌++◌, slice_get}
use Rattle.std.specs.List.{list_any}
use Rattle.mr_core.specs.declared.event.Shape.{Shape}
use Rattle.mr_core.specs.declared.event.Task.{Task}
use Rattle.mr_core.specs.declared.event.Event.{Event}
use Rattle.mr_core.specs.declared.event.Reply.{Reply}
use Rattle.mr_core.specs.Master.{State, Attempt, Run, opening, issued, left_out, is_active, may_give, tasks}
use Rattle.mr_core.specs.Laws.{IsMapOf, IsAccepted, GoesOnWith, HasFetched, IsFixedTo}

-- all outputs ever accepted for a split were made under one left-out set
abbrev pub OneSet : List (Event × Reply) → State → Type 0
OneSet h st = (a b s : ℕ) (k l : List ℕ) → IsAccepted h a → IsAccepted h b → IsMapOf st a s k → IsMapOf st b s l → k ≡ l

-- before its completion was accepted, each committed reduce attempt fetched from each split an output that had been
-- accepted for it before the fetch
abbrev pub CommittedHaveFetched : Shape → List (Event × Reply) → State → Type 0
CommittedHaveFetched sh h st = (before : List (Event × Reply)) (a o : ℕ) → GoesOnWith before (Event.ReduceDone a o, Reply.Accepted) h → HasFetched before st sh.maps a

-- what is committed in one state is committed in another, with the same output
abbrev pub CommitsStay : State → State → Type 0
CommitsStay old new = (p o : ℕ) → slice_get old.committed p ≡ Some (Some o) → slice_get new.committed p ≡ Some (Some o)

-- a split's left-out set that is fixed in one state is fixed in another, as the same
abbrev pub FixedSetsStay : State → State → Type 0
FixedSetsStay old new = (s : ℕ) (k : List ℕ) → IsFixedTo old s k → IsFixedTo new s k

-- the left-out sets of all splits together have no more records than they may
abbrev pub FewAreLeftOut : Shape → State → Type 0
FewAreLeftOut sh st = left_out st ≤ sh.limits.skips

-- no task has more attempts than it may
abbrev pub FewAttempts : Shape → State → Type 0
FewAttempts sh st = (t : Task) → issued st t ≤ sh.limits.attempts

-- live attempts are of workers that aren't lost
abbrev pub LiveAreActive : State → Type 0
LiveAreActive st = (a : ℕ) (at : Attempt) → slice_get st.attempts a ≡ Some at → at.live ≡ true → slice_get st.lost at.worker ≡ Some false

-- while the job goes on, where no attempt is live, a task may be given to each worker that isn't lost
abbrev pub SomeTaskMayBeGiven : Shape → State → Type 0
SomeTaskMayBeGiven sh st = st.end ≡ None → list_any (λ at. at.live) st.attempts ≡ false → (w : ℕ) → is_active st w ≡ true
    → list_any (may_give sh st w) (tasks sh) ≡ true

-- of a run with this history, which leads to this state; of two states, the earlier is one that a beginning of it leads to
pub record Promises (sh : Shape) (h : List (Event × Reply)) (st : State) : Type 0 where
  pub one_set : OneSet h st
  pub fetched : CommittedHaveFetched sh h st
  pub stays : (before later : List (Event × Reply)) (mid : State) → h ≡ before ++ later → Run sh (opening sh) before mid → Run sh mid later st → CommitsStay mid st
  pub fixed : (before later : List (Event × Reply)) (mid : State) → h ≡ before ++ later → Run sh (opening sh) before mid → Run sh mid later st → FixedSetsStay mid st
  pub skips : FewAreLeftOut sh st
  pub attempts : FewAttempts sh st
  pub live : LiveAreActive st
  pub given : SomeTaskMayBeGiven sh st

-- it holds of every run, of a job with any limits
abbrev pub OfEveryRun : (Shape → List (Event × Reply) → State → Type 0) → Type 0
OfEveryRun P = (sh : Shape) (h : List (Event × Reply)) (st : State) → Run sh (opening sh) h st → P sh h st

-- it holds of every run, of a job that has a partition and allows an attempt
abbrev pub OfEveryJob : (Shape → List (Event × Reply) → State → Type 0) → Type 0
OfEveryJob P = (sh : Shape) (h : List (Event × Reply)) (st : State) → 1 ≤ sh.parts → 1 ≤ sh.limits.attempts → Run sh (opening sh) h st → P sh h st

-- it holds of the states that lead, by a run, one to the other
abbrev pub OfEveryLaterState : (State → State → Type 0) → Shape → List (Event × Reply) → State → Type 0
OfEveryLaterState P sh h st = (later : List (Event × Reply)) (new : State) → Run sh st later new → P st new
