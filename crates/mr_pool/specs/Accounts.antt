-- Which failures of a job its script accounts for.
use Rattle.std.specs.Prelude.{ℕ, Bool, true, false, not, ◌||◌, ◌==◌, List}
use Rattle.std.specs.List.{list_all, list_any, range_with_len}
use Rattle.mr_script.specs.declared.script.Directive.{Directive}
use Rattle.mr_script.specs.declared.script.Directive.TheVariants.{Lose, Zombie, Bad, Flaky}
use Rattle.mr_core.specs.declared.event.JobFault.{JobFault}
use Rattle.mr_core.specs.declared.event.JobFault.TheVariants.{TooManyAttempts, TooManySkips, NoWorkers}

-- the directive loses the worker
abbrev pub loses_worker : ℕ → Directive → Bool
loses_worker w (Lose worker after) = worker == w
loses_worker w (Zombie worker after) = worker == w
loses_worker w _ = false

-- it loses some worker
abbrev pub loses_some : Directive → Bool
loses_some (Lose worker after) = true
loses_some (Zombie worker after) = true
loses_some _ = false

-- it lets a record fail
abbrev pub fails_record : Directive → Bool
fails_record (Bad split rec) = true
fails_record (Flaky split rec attempts) = true
fails_record _ = false

-- a directive of the list loses the worker
abbrev pub is_worker_lost : List Directive → ℕ → Bool
is_worker_lost ds w = list_any (loses_worker w) ds

-- no worker is left where each has a line that loses it, or where the store's device may have failed; too many records are
-- left out where a line lets one fail; a task has had all its attempts where a line lets a record fail or loses a worker, where
-- a region could not be read (`damage`), or where the store is not steady
abbrev pub accounts : List Directive → Bool → Bool → ℕ → JobFault → Bool
accounts ds damage steady workers NoWorkers = list_all (is_worker_lost ds) (range_with_len 0 workers) || not steady
accounts ds damage steady workers TooManySkips = list_any fails_record ds
accounts ds damage steady workers TooManyAttempts = (list_any fails_record ds || list_any loses_some ds) || (damage || not steady)
