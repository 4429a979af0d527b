-- What the master asks of its tasks and attempts.
use Rattle.std.specs.Prelude.{ℕ, Bool, true, ◌&&◌, ◌==◌, ◌≡◌, Some}
use Rattle.mr_core.specs.declared.event.Shape.{Shape}
use Rattle.mr_core.specs.declared.event.Task.{Task}
use Rattle.mr_core.specs.Master.{State, Attempt, live_attempt, is_open, live, maps_complete}
use Rattle.mr_core.specs.declared.event.Task.TheVariants.{Map as MapTask, Reduce as ReduceTask}

-- a task that waits for no map
abbrev pub is_ready : State → Task → Bool
is_ready st (MapTask s) = true
is_ready st (ReduceTask p) = maps_complete st

-- an open task that one worker executes alone
abbrev pub is_lone : Shape → State → Task → Bool
is_lone sh st t = is_open sh st t && (live st t == 1)

-- the attempt of this number is live, and executes this task
abbrev pub IsLive : State → ℕ → Task → Type 0
IsLive st a t = (at : Attempt) × (live_attempt st a ≡ Some at) × (at.task ≡ t)
