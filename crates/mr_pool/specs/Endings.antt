-- How a job ended, by what its script accounts for.
use Rattle.std.specs.Prelude.{ℕ, Bool, Option, Some, List, if◌then◌else◌}
use Rattle.mr_script.specs.declared.script.Directive.{Directive}
use Rattle.mr_core.specs.declared.event.End.{End}
use Rattle.mr_core.specs.declared.event.End.TheVariants.{Done as Finished, Failed as EndedBy}
use Rattle.mr_pool.specs.Accounts.{accounts}
use Rattle.mr_pool.specs.declared.running.Ending.{Ending}
use Rattle.mr_pool.specs.declared.running.Ending.TheVariants.{Done, Failed, Astray}

-- done; or by a fault that the script accounts for; or astray
abbrev pub ending_of : Option End → List Directive → Bool → Bool → ℕ → Ending
ending_of (Some Finished) script damage steady workers = Done
ending_of (Some (EndedBy fault)) script damage steady workers = if accounts script damage steady workers fault then Failed fault else Astray
ending_of _ script damage steady workers = Astray
