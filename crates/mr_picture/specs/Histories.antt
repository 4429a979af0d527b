-- Which texts are histories, and which line of another is its first bad one. Public clauses cite `IsHistory` and `IsRefused`.
use Rattle.std.specs.Prelude.{◌≡◌, ◌≢◌, ◌⊎◌, ℕ, ◌+◌, ◌<◌, ◌^◌, Bool, true, false, ◌&&◌, ◌==◌, nat_lt, IsTrue, Option, Some, List, [], ◌∷◌, ◌++◌, length, slice_get}
use Rattle.std.specs.List.{AllByRecursion, flat_map}
use Rattle.mr_core.specs.Core.{InLimits}
use Rattle.mr_core.specs.declared.event.Shape.{Shape}
use Rattle.mr_core.specs.declared.event.Task.{Task}
use Rattle.mr_core.specs.declared.event.Task.TheVariants as task
use Rattle.mr_core.specs.declared.event.Event.{Event}
use Rattle.mr_core.specs.declared.event.Event.TheVariants as event
use Rattle.mr_core.specs.declared.event.Reply.{Reply}
use Rattle.mr_core.specs.declared.event.Reply.TheVariants as reply
use Rattle.mr_picture.specs.declared.picture.PictureFault.{PictureFault}
use Rattle.mr_picture.specs.declared.picture.PictureFault.TheVariants.{BadHistory, OutOfMemory}
use Rattle.mr_picture.specs.HistoryLines.{entry_line, history_text, shape_line}

-- ---- what entries before have given

-- the task that a reply gives
abbrev pub task_in : Event × Reply → List Task
task_in (e, reply.Map attempt split skips) = task.Map split ∷ []
task_in (e, reply.Reduce attempt partition) = task.Reduce partition ∷ []
task_in _ = []

-- the tasks that were given, by attempt
abbrev pub given : List (Event × Reply) → List Task
given entries = flat_map task_in entries

abbrev pub is_map : Option Task → Bool
is_map (Some (task.Map split)) = true
is_map _ = false

abbrev pub is_reduce : Option Task → Bool
is_reduce (Some (task.Reduce partition)) = true
is_reduce _ = false

-- ---- which replies an event may have

-- to an ask: a task of the shape, as the next attempt; or none
abbrev pub answers_ask : Shape → ℕ → Reply → Bool
answers_ask sh next (reply.Map attempt split skips) = (attempt == next) && nat_lt split sh.maps
answers_ask sh next (reply.Reduce attempt partition) = (attempt == next) && nat_lt partition sh.parts
answers_ask sh next reply.Wait = true
answers_ask sh next (reply.Stop end) = true
answers_ask sh next _ = false

-- to a fetch: the output of an earlier event; or none
abbrev pub answers_fetch : ℕ → Reply → Bool
answers_fetch at (reply.Region output) = nat_lt output at
answers_fetch at reply.Gone = true
answers_fetch at reply.Ignored = true
answers_fetch at _ = false

abbrev pub answers_report : Reply → Bool
answers_report reply.Accepted = true
answers_report reply.Ignored = true
answers_report _ = false

-- behind `at` entries, which gave these tasks: what is named is there, an output has the number of the entries before it, and
-- the event may have this reply
abbrev pub fits : Shape → ℕ → List Task → Event → Reply → Bool
fits sh at tasks (event.Ask worker) r = nat_lt worker sh.workers && answers_ask sh (length tasks) r
fits sh at tasks (event.Fetch attempt split) r = is_reduce (slice_get tasks attempt) && (nat_lt split sh.maps && answers_fetch at r)
fits sh at tasks (event.MapDone attempt output) r = is_map (slice_get tasks attempt) && ((output == at) && answers_report r)
fits sh at tasks (event.MapFailed attempt rec) r = is_map (slice_get tasks attempt) && answers_report r
fits sh at tasks (event.ReduceDone attempt output) r = is_reduce (slice_get tasks attempt) && ((output == at) && answers_report r)
fits sh at tasks (event.Lose worker) r = nat_lt worker sh.workers && answers_report r
fits sh at tasks (event.Damaged attempt split) r = is_reduce (slice_get tasks attempt) && (nat_lt split sh.maps && answers_report r)

-- ---- numbers

abbrev pub IsSmall : ℕ → Type 0
IsSmall n = n < 2 ^ 32

abbrev pub AreSmallIn : Event → Type 0
AreSmallIn (event.Ask worker) = IsSmall worker
AreSmallIn (event.Fetch attempt split) = IsSmall attempt × IsSmall split
AreSmallIn (event.MapDone attempt output) = IsSmall attempt × IsSmall output
AreSmallIn (event.MapFailed attempt rec) = IsSmall attempt × IsSmall rec
AreSmallIn (event.ReduceDone attempt output) = IsSmall attempt × IsSmall output
AreSmallIn (event.Lose worker) = IsSmall worker
AreSmallIn (event.Damaged attempt split) = IsSmall attempt × IsSmall split

abbrev pub AreSmallOf : Reply → Type 0
AreSmallOf (reply.Map attempt split skips) = IsSmall attempt × IsSmall split × AllByRecursion IsSmall skips
AreSmallOf (reply.Reduce attempt partition) = IsSmall attempt × IsSmall partition
AreSmallOf (reply.Region output) = IsSmall output
AreSmallOf _ = Unit {0}

-- ---- histories

-- the entry may come behind these: its numbers have 32 bits, and it fits
pub record MayFollow (sh : Shape) (before : List (Event × Reply)) (e : Event × Reply) : Type 0 where
  pub in_event : AreSmallIn e.0
  pub in_reply : AreSmallOf e.1
  pub fitting : IsTrue (fits sh (length before) (given before) e.0 e.1)

-- each of the entries may come behind those before it
abbrev pub Follow : Shape → List (Event × Reply) → List (Event × Reply) → Type 0
Follow sh before [] = Unit {0}
Follow sh before (e ∷ es) = MayFollow sh before e × Follow sh (before ++ e ∷ []) es

-- the text is the line of a shape within the limits of a job, and the lines of entries of which each may follow
pub record IsHistory (text : List ℕ) (sh : Shape) (entries : List (Event × Reply)) : Type 0 where
  pub text_is : text ≡ history_text sh entries
  pub limits : InLimits sh
  pub follow : Follow sh [] entries

-- it is a history of so many entries
abbrev pub IsReadable : List ℕ → ℕ → Type 0
IsReadable text n = (sh : Shape) × (entries : List (Event × Reply)) × IsHistory text sh entries × (n ≡ length entries)

-- no shape has its line at the front
abbrev pub HasNoShape : List ℕ → Type 0
HasNoShape text = (sh : Shape) (rest : List ℕ) → InLimits sh → text ≡ shape_line sh ++ rest → ⊥

-- no entry that may follow has its line at the front
abbrev pub HasNoEntry : Shape → List (Event × Reply) → List ℕ → Type 0
HasNoEntry sh before text = (e : Event × Reply) (rest : List ℕ) → MayFollow sh before e → text ≡ entry_line e ++ rest → ⊥

-- line n, from 1, is the first bad one: it is the first and has no shape; or the lines before it are a history, and what comes
-- behind it isn't empty and has no entry at its front
pub record IsBadBehind (text : List ℕ) (n : ℕ) : Type 0 where
  pub sh : Shape
  pub before : List (Event × Reply)
  pub front : List ℕ
  pub rest : List ℕ
  pub history : IsHistory front sh before
  pub text_is : text ≡ front ++ rest
  pub more : rest ≢ []
  pub bad : HasNoEntry sh before rest
  pub number : n ≡ length before + 2

abbrev pub IsFirstBad : List ℕ → ℕ → Type 0
IsFirstBad text n = ((n ≡ 1) × HasNoShape text) ⊎ IsBadBehind text n

abbrev pub IsRefused : List ℕ → PictureFault → Type 0
IsRefused text (BadHistory line) = IsFirstBad text line
IsRefused text OutOfMemory = Unit {0}
