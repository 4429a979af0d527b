-- Worked runs of the master.
use Rattle.std.specs.Prelude.{ℕ, List, [], ◌∷◌}
use Rattle.mr_core.specs.declared.event.Shape.{Shape}
use Rattle.mr_core.specs.declared.event.Event.{Event}
use Rattle.mr_core.specs.declared.event.Reply.{Reply}
use Rattle.mr_core.specs.declared.event.End.{End}
use Rattle.mr_core.specs.declared.event.JobFault.{JobFault}

abbrev pub shape : ℕ → ℕ → ℕ → ℕ → ℕ → Shape
shape m r w a k = record { maps = m; parts = r; workers = w; limits = record { attempts = a; skips = k } }

-- a repeated and a late completion, and a lost worker
abbrev pub repeated : List (Event × Reply)
repeated =
    (Event.Ask 0, Reply.Map 0 0 [])
    ∷ (Event.Ask 1, Reply.Map 1 0 [])
    ∷ (Event.MapDone 1 10, Reply.Accepted)
    ∷ (Event.MapDone 0 11, Reply.Ignored)
    ∷ (Event.Lose 1, Reply.Accepted)
    ∷ (Event.MapDone 1 13, Reply.Ignored)
    ∷ (Event.Ask 1, Reply.Stop End.Dismissed)
    ∷ (Event.Ask 0, Reply.Map 2 0 [])
    ∷ (Event.MapDone 2 12, Reply.Accepted)
    ∷ (Event.Ask 0, Reply.Reduce 3 0)
    ∷ (Event.Fetch 3 0, Reply.Region 12)
    ∷ (Event.ReduceDone 3 20, Reply.Accepted)
    ∷ (Event.Ask 0, Reply.Stop End.Done)
    ∷ []

-- a reduce whose map output is lost
abbrev pub lost_output : List (Event × Reply)
lost_output =
    (Event.Ask 0, Reply.Map 0 0 [])
    ∷ (Event.MapDone 0 10, Reply.Accepted)
    ∷ (Event.Ask 1, Reply.Reduce 1 0)
    ∷ (Event.Lose 0, Reply.Accepted)
    ∷ (Event.Fetch 1 0, Reply.Gone)
    ∷ (Event.Ask 1, Reply.Map 2 0 [])
    ∷ []

-- a record that is left out by one attempt, and a set that was fixed without it
abbrev pub left_out_late : List (Event × Reply)
left_out_late =
    (Event.Ask 0, Reply.Map 0 0 [])
    ∷ (Event.Ask 1, Reply.Map 1 0 [])
    ∷ (Event.MapFailed 0 5, Reply.Accepted)
    ∷ (Event.Ask 0, Reply.Map 2 0 [])
    ∷ (Event.MapFailed 2 5, Reply.Accepted)
    ∷ (Event.Ask 0, Reply.Map 3 0 (5 ∷ []))
    ∷ (Event.MapDone 1 10, Reply.Accepted)
    ∷ (Event.Lose 1, Reply.Accepted)
    ∷ (Event.MapDone 3 11, Reply.Ignored)
    ∷ (Event.Ask 0, Reply.Map 4 0 [])
    ∷ []

-- a region that can't be read: its map task is done again
abbrev pub damaged_region : List (Event × Reply)
damaged_region =
    (Event.Ask 0, Reply.Map 0 0 [])
    ∷ (Event.MapDone 0 10, Reply.Accepted)
    ∷ (Event.Ask 1, Reply.Reduce 1 0)
    ∷ (Event.Fetch 1 0, Reply.Region 10)
    ∷ (Event.Damaged 1 0, Reply.Accepted)
    ∷ (Event.Damaged 1 0, Reply.Ignored)
    ∷ (Event.Ask 0, Reply.Map 2 0 [])
    ∷ (Event.MapDone 2 11, Reply.Accepted)
    ∷ (Event.Ask 1, Reply.Reduce 3 0)
    ∷ (Event.Fetch 3 0, Reply.Region 11)
    ∷ (Event.ReduceDone 3 20, Reply.Accepted)
    ∷ (Event.Ask 1, Reply.Stop End.Done)
    ∷ []

abbrev pub too_many_attempts : List (Event × Reply)
too_many_attempts =
    (Event.Ask 0, Reply.Map 0 0 [])
    ∷ (Event.MapFailed 0 3, Reply.Accepted)
    ∷ (Event.Ask 0, Reply.Stop (End.Failed JobFault.TooManyAttempts))
    ∷ (Event.MapDone 0 9, Reply.Ignored)
    ∷ []

abbrev pub no_maps : List (Event × Reply)
no_maps =
    (Event.Ask 0, Reply.Reduce 0 0)
    ∷ (Event.Ask 1, Reply.Reduce 1 0)
    ∷ (Event.Ask 0, Reply.Wait)
    ∷ (Event.ReduceDone 1 7, Reply.Accepted)
    ∷ (Event.ReduceDone 0 8, Reply.Ignored)
    ∷ (Event.Lose 0, Reply.Ignored)
    ∷ (Event.Ask 0, Reply.Stop End.Done)
    ∷ []

abbrev pub no_workers : List (Event × Reply)
no_workers =
    (Event.Ask 5, Reply.Stop End.Dismissed)
    ∷ (Event.Ask 0, Reply.Map 0 0 [])
    ∷ (Event.Fetch 0 0, Reply.Ignored)
    ∷ (Event.Lose 0, Reply.Accepted)
    ∷ (Event.Lose 0, Reply.Ignored)
    ∷ (Event.Ask 0, Reply.Stop (End.Failed JobFault.NoWorkers))
    ∷ []
