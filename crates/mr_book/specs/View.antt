-- What contracts see of a book, and what every book keeps.
use Rattle.std.specs.Prelude.{◌≡◌, ℕ, suc, List, [], ◌∷◌, Option, Some, None, IfSome}
use Rattle.std.specs.List.{flat_map}
use Rattle.mr_task.specs.Laid.{Laid}
use Rattle.mr_task.specs.Values.{Reduced}
use Rattle.mr_core.specs.declared.event.Shape.{Shape}
use Rattle.mr_core.specs.declared.event.Event.{Event}
use Rattle.mr_core.specs.declared.event.Event.TheVariants.{MapDone, ReduceDone}
use Rattle.mr_core.specs.declared.event.Reply.{Reply}
use Rattle.mr_core.specs.declared.event.Reply.TheVariants.{Accepted}
use Rattle.mr_core.specs.Master.{State, Run, opening}
use Rattle.mr_book.specs.Stored.{numbers}

-- what it was opened with, where the master stands, all that it was told with its replies, and the outputs that it stores
pub record BookView : Type 0 where
  pub shape : Shape
  pub state : State
  pub history : List (Event × Reply)
  pub maps : List (ℕ × Laid)
  pub reduces : List (ℕ × Reduced)

-- ---- what histories accept

abbrev pub accepted_map : Event × Reply → List ℕ
accepted_map (MapDone attempt output, Accepted) = output ∷ []
accepted_map _ = []

abbrev pub accepted_reduce : Event × Reply → List ℕ
accepted_reduce (ReduceDone attempt output, Accepted) = output ∷ []
accepted_reduce _ = []

-- the numbers of the map tasks' outputs that the history accepted, in order, also of those that were lost
abbrev pub accepted_maps : List (Event × Reply) → List ℕ
accepted_maps h = flat_map accepted_map h

-- the numbers of the reduce tasks' outputs that it accepted
abbrev pub accepted_reduces : List (Event × Reply) → List ℕ
accepted_reduces h = flat_map accepted_reduce h

-- ---- how outputs are numbered

-- the number of the output that comes with the event
abbrev pub output_with : Event → Option ℕ
output_with (MapDone attempt output) = Some output
output_with (ReduceDone attempt output) = Some output
output_with _ = None

-- each output has the number of its event's place, in a history that begins at this place
abbrev pub AreNumbered : ℕ → List (Event × Reply) → Type 0
AreNumbered place [] = Unit {0}
AreNumbered place (x ∷ h) = IfSome (output_with (x.0)) (λ output. output ≡ place) × AreNumbered (suc place) h

-- ---- what every book keeps

-- each output is numbered by its place in the history, and the outputs stored are just those that the history accepted
pub record StoresAccepted (history : List (Event × Reply)) (mapped : List (ℕ × Laid)) (reduced : List (ℕ × Reduced)) : Type 0 where
  pub numbered : AreNumbered 0 history
  pub maps : numbers mapped ≡ accepted_maps history
  pub reduces : numbers reduced ≡ accepted_reduces history

-- the history is a run of the master, which leads to its state
pub record IsKept (b : BookView) : Type 0 where
  pub run : Run b.shape (opening b.shape) b.history b.state
  pub stored : StoresAccepted b.history b.maps b.reduces
