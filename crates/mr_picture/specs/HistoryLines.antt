-- The history of a run, as text: the sizes and limits of its job, and a line for each event with its reply.
use Rattle.std.specs.Prelude.{ℕ, List, [], ◌∷◌, ◌++◌, codes, decimal}
use Rattle.std.specs.List.{flat_map}
use Rattle.mr_core.specs.declared.event.Shape.{Shape}
use Rattle.mr_core.specs.declared.event.Event.{Event}
use Rattle.mr_core.specs.declared.event.Event.TheVariants as event
use Rattle.mr_core.specs.declared.event.Reply.{Reply}
use Rattle.mr_core.specs.declared.event.Reply.TheVariants as reply
use Rattle.mr_core.specs.declared.event.End.{End}
use Rattle.mr_core.specs.declared.event.End.TheVariants as end
use Rattle.mr_core.specs.declared.event.JobFault.{JobFault}
use Rattle.mr_core.specs.declared.event.JobFault.TheVariants as fault

-- words with a number behind them
abbrev pub numbered : List ℕ → ℕ → List ℕ
numbered words n = words ++ decimal n

abbrev pub fault_name : JobFault → List ℕ
fault_name fault.TooManyAttempts = codes "TooManyAttempts"
fault_name fault.TooManySkips = codes "TooManySkips"
fault_name fault.NoWorkers = codes "NoWorkers"

abbrev pub end_text : End → List ℕ
end_text end.Done = codes "done"
end_text end.Dismissed = codes "dismissed"
end_text (end.Failed f) = codes "failed " ++ fault_name f

-- the records that an attempt leaves out, each behind a space; nothing where there are none
abbrev pub without_text : List ℕ → List ℕ
without_text [] = []
without_text (r ∷ rs) = codes " without" ++ flat_map (numbered (codes " ")) (r ∷ rs)

abbrev pub map_text : ℕ → ℕ → List ℕ → List ℕ
map_text attempt split skips = numbered (codes "map attempt ") attempt ++ (numbered (codes " split ") split ++ without_text skips)

abbrev pub event_text : Event → List ℕ
event_text (event.Ask worker) = numbered (codes "ask ") worker
event_text (event.Fetch attempt split) = numbered (codes "fetch attempt ") attempt ++ numbered (codes " split ") split
event_text (event.MapDone attempt output) = numbered (codes "map-done attempt ") attempt ++ numbered (codes " output ") output
event_text (event.MapFailed attempt rec) = numbered (codes "map-failed attempt ") attempt ++ numbered (codes " record ") rec
event_text (event.ReduceDone attempt output) = numbered (codes "reduce-done attempt ") attempt ++ numbered (codes " output ") output
event_text (event.Lose worker) = numbered (codes "lose ") worker
event_text (event.Damaged attempt split) = numbered (codes "damaged attempt ") attempt ++ numbered (codes " split ") split

abbrev pub reply_text : Reply → List ℕ
reply_text (reply.Map attempt split skips) = map_text attempt split skips
reply_text (reply.Reduce attempt partition) = numbered (codes "reduce attempt ") attempt ++ numbered (codes " partition ") partition
reply_text reply.Wait = codes "wait"
reply_text (reply.Stop e) = codes "stop " ++ end_text e
reply_text (reply.Region output) = numbered (codes "output ") output
reply_text reply.Gone = codes "gone"
reply_text reply.Accepted = codes "accepted"
reply_text reply.Ignored = codes "ignored"

-- an event and its reply
abbrev pub entry_line : Event × Reply → List ℕ
entry_line e = event_text e.0 ++ (codes ": " ++ (reply_text e.1 ++ codes "\n"))

abbrev pub shape_line : Shape → List ℕ
shape_line s =
    numbered (codes "history 1 maps ") s.maps ++ (numbered (codes " parts ") s.parts ++ (numbered (codes " workers ") s.workers
    ++ (numbered (codes " attempts ") s.limits.attempts ++ (numbered (codes " skips ") s.limits.skips ++ codes "\n"))))

abbrev pub history_text : Shape → List (Event × Reply) → List ℕ
history_text shape entries = shape_line shape ++ flat_map entry_line entries
