-- Of no public promise: the master with its history.
use Rattle.std.specs.Prelude.{ℕ, List}
use Rattle.mr_core.specs.Core.{CoreView}
use Rattle.mr_core.specs.declared.event.Event.{Event}
use Rattle.mr_core.specs.declared.event.Reply.{Reply}

-- room: for how many events more there is memory
pub record LogView : Type 0 where
  pub core : CoreView
  pub history : List (Event × Reply)
  pub room : ℕ
