-- What one call of a book does.
use Rattle.std.specs.Prelude.{◌≡◌, ℕ, Bool, true, false, not, Option, Some, None, List, [], ◌∷◌, ◌++◌}
use Rattle.std.specs.List.{count_by, list_any}
use Rattle.std.specs.Arc.{arc_value}
use Rattle.std.specs.declared.sync.Arc.{Arc}
use Rattle.std.specs.declared.alloc.Global.{Global}
use Rattle.mr_core.specs.declared.event.Event.{Event}
use Rattle.mr_core.specs.declared.event.Event.TheVariants.{Ask, Damaged}
use Rattle.mr_core.specs.declared.event.Reply.{Reply}
use Rattle.mr_core.specs.declared.event.Reply.TheVariants.{Wait, Region}
use Rattle.mr_core.specs.Master.{Step}
use Rattle.mr_book.specs.Stored.{stored_at}
use Rattle.mr_book.specs.View.{BookView}
use Rattle.mr_task.specs.Laid.{Laid}

-- the call appends its event with this reply, which is a step of the master from the state before to the state after
pub record Calls (old : BookView) (event : Event) (reply : Reply) (new : BookView) : Type 0 where
  pub shape : new.shape ≡ old.shape
  pub history : new.history ≡ old.history ++ (event, reply) ∷ []
  pub step : Step old.shape old.state event reply new.state

-- no output is stored, and none is lost
pub record StoresNothing (old new : BookView) : Type 0 where
  pub maps : new.maps ≡ old.maps
  pub reduces : new.reduces ≡ old.reduces

-- the number of the region that a reply tells
abbrev pub region_in : Reply → Option ℕ
region_in (Region output) = Some output
region_in _ = None

-- with a number comes the output that is stored under it, and with none comes none
abbrev pub Shares : List (ℕ × Laid) → Option ℕ → Option (Arc Laid Global) → Type 0
Shares maps (Some number) (Some share) = stored_at maps number ≡ Some (arc_value share)
Shares maps (Some number) None = ⊥
Shares maps None share = share ≡ None

-- what comes with a reply
abbrev pub Hands : List (ℕ × Laid) → Reply → Option (Arc Laid Global) → Type 0
Hands maps reply share = Shares maps (region_in reply) share

-- a worker asks and has to wait
abbrev pub is_wait : Event × Reply → Bool
is_wait (Ask worker, Wait) = true
is_wait _ = false

-- how many events are no such ask
abbrev pub grown : List (Event × Reply) → ℕ
grown h = count_by (λ x. not (is_wait x)) h

-- a reduce attempt could not read what it had fetched
abbrev pub is_damage : Event × Reply → Bool
is_damage (Damaged attempt map, reply) = true
is_damage _ = false

-- some attempt could not
abbrev pub has_damage : List (Event × Reply) → Bool
has_damage h = list_any is_damage h
