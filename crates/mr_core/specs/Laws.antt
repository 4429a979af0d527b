-- What holds of every run of the master.
use Rattle.std.specs.Prelude.{◌≡◌, ℕ, ◌<◌, true, Some, List, ◌∷◌, ◌++◌, slice_get}
use Rattle.mr_bytes.specs.Lists.{Has}
use Rattle.mr_core.specs.declared.event.Task.{Task}
use Rattle.mr_core.specs.declared.entries.Split.{Split}
use Rattle.mr_core.specs.declared.event.Event.{Event}
use Rattle.mr_core.specs.declared.event.Reply.{Reply}
use Rattle.mr_core.specs.Master.{State, Attempt}
use Rattle.mr_core.specs.declared.event.Event.TheVariants.{Fetch, MapDone, ReduceDone}

-- the attempt executes this map task, and leaves out these records
abbrev pub IsMapOf : State → ℕ → ℕ → List ℕ → Type 0
IsMapOf st a s skips = (at : Attempt) × (slice_get st.attempts a ≡ Some at) × (at.task ≡ Task.Map s) × (at.skips ≡ skips)

-- the attempt executes this reduce task
abbrev pub IsReduceOf : State → ℕ → ℕ → Type 0
IsReduceOf st a p = (at : Attempt) × (slice_get st.attempts a ≡ Some at) × (at.task ≡ Task.Reduce p)

-- in this history the attempt's output was accepted for its split
abbrev pub IsAccepted : List (Event × Reply) → ℕ → Type 0
IsAccepted h a = (o : ℕ) × Has h (MapDone a o, Reply.Accepted)

-- in this history the output was accepted for the split
abbrev pub IsOutputOf : List (Event × Reply) → State → ℕ → ℕ → Type 0
IsOutputOf h st s x = (b : ℕ) × Has h (MapDone b x, Reply.Accepted) × (at : Attempt) × (slice_get st.attempts b ≡ Some at) × (at.task ≡ Task.Map s)

-- the history goes on after `before` with this event and its reply
abbrev pub GoesOnWith : List (Event × Reply) → Event × Reply → List (Event × Reply) → Type 0
GoesOnWith before e h = (later : List (Event × Reply)) × (h ≡ before ++ e ∷ later)

-- in this history the attempt fetched the output from the split, for which it had been accepted before the fetch
abbrev pub IsFetched : List (Event × Reply) → State → ℕ → ℕ → ℕ → Type 0
IsFetched h st a s x = (before : List (Event × Reply)) × GoesOnWith before (Fetch a s, Reply.Region x) h × IsOutputOf before st s x

-- in this history the attempt fetched from each split an output that had been accepted for it before the fetch
abbrev pub HasFetched : List (Event × Reply) → State → ℕ → ℕ → Type 0
HasFetched h st splits a = (s : ℕ) → s < splits → (x : ℕ) × IsFetched h st a s x

-- in this history the output was accepted for the partition
abbrev pub IsPartOf : List (Event × Reply) → State → ℕ → ℕ → Type 0
IsPartOf h st p o = (a : ℕ) × Has h (ReduceDone a o, Reply.Accepted) × IsReduceOf st a p

-- the split's left-out records are fixed, as these
abbrev pub IsFixedTo : State → ℕ → List ℕ → Type 0
IsFixedTo st s k = (sp : Split) × (slice_get st.splits s ≡ Some sp) × (sp.fixed ≡ true) × (sp.skips ≡ k)
