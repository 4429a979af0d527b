-- What contracts see of a core.
use Rattle.std.specs.Prelude.{◌≡◌, ◌≤◌, ◌^◌, List, [], ◌∷◌, ◌++◌}
use Rattle.mr_core.specs.declared.event.Shape.{Shape}
use Rattle.mr_core.specs.declared.event.Event.{Event}
use Rattle.mr_core.specs.declared.event.Event.TheVariants.{Ask, MapFailed}
use Rattle.mr_core.specs.declared.event.Reply.{Reply}
use Rattle.mr_core.specs.Master.{State, Step, Run, opening}
use Rattle.mr_core.specs.Promises.{Promises}

-- what the master was opened with, and its state
pub record CoreView : Type 0 where
  pub shape : Shape
  pub state : State

-- the limits of a job
pub record InLimits (sh : Shape) : Type 0 where
  pub maps : sh.maps ≤ 2 ^ 20
  pub parts : (1 ≤ sh.parts) × (sh.parts ≤ 1024)
  pub workers : (1 ≤ sh.workers) × (sh.workers ≤ 64)
  pub attempts : (1 ≤ sh.limits.attempts) × (sh.limits.attempts ≤ 16)
  pub skips : sh.limits.skips ≤ 1000

-- some run leads to the state
abbrev pub IsReached : Shape → State → Type 0
IsReached sh st = (h : List (Event × Reply)) × Run sh (opening sh) h st

-- the event with this reply is a step of the master, from the state before to the state after
abbrev pub IsStep : CoreView → Event → Reply → CoreView → Type 0
IsStep old event reply new = (new.shape ≡ old.shape) × Step old.shape old.state event reply new.state

-- the events that take memory: a worker asks, or an attempt tells a failure
abbrev pub TakesMemory : Event → Type 0
TakesMemory (Ask w) = Unit {0}
TakesMemory (MapFailed a r) = Unit {0}
TakesMemory event = ⊥

-- this history is a run that leads to the state, and what is promised of runs holds of it
abbrev pub IsRun : CoreView → List (Event × Reply) → Type 0
IsRun c h = Run c.shape (opening c.shape) h c.state × Promises c.shape h c.state

-- each run that leads to the state before goes on by the event with its reply, to the state after
abbrev pub GoesOn : CoreView → Event → Reply → CoreView → Type 0
GoesOn old event reply new = (h : List (Event × Reply)) → Run old.shape (opening old.shape) h old.state → IsRun new (h ++ (event, reply) ∷ [])
