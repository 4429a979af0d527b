-- The master of a job: its state, one step for each event with its reply, and runs.
use Rattle.std.specs.Prelude.{◌≡◌, ℕ, zero, suc, Bool, true, false, not, ◌&&◌, ◌||◌, Option, Some, None, List, [], ◌∷◌, ◌++◌, length, map, replicate, slice_get, nat_eq, nat_lt, ◌==◌, if◌then◌else◌, is_some, is_none}
use Rattle.std.specs.Option.{option_map_or}
use Rattle.std.specs.List.{list_any, list_all, count_by, sum_by, range_with_len}
use Rattle.std.specs.Cmp.Lexicographic.{pointwise}
use Rattle.std.specs.Ordering.{nat_cmp}
use Rattle.std.specs.declared.cmp.Ordering.{Ordering}
use Rattle.std.specs.declared.cmp.Ordering.TheVariants.{Less, Equal, Greater}
use Rattle.mr_core.specs.declared.event.Shape.{Shape}
use Rattle.mr_core.specs.declared.event.Task.{Task}
use Rattle.mr_core.specs.declared.event.Task.TheVariants.{Map as MapTask, Reduce as ReduceTask}
use Rattle.mr_core.specs.declared.event.JobFault.TheVariants.{TooManyAttempts, TooManySkips, NoWorkers}
use Rattle.mr_core.specs.declared.event.End.{End}
use Rattle.mr_core.specs.declared.event.End.TheVariants.{Done, Dismissed, Failed}
use Rattle.mr_core.specs.declared.event.Event.{Event}
use Rattle.mr_core.specs.declared.event.Event.TheVariants.{Ask, Fetch, MapDone, MapFailed, ReduceDone, Lose, Damaged}
use Rattle.mr_core.specs.declared.event.Reply.{Reply}
use Rattle.mr_core.specs.declared.entries.Split.{Split}
use Rattle.mr_core.specs.declared.event.Reply.TheVariants.{Map, Reduce, Wait, Stop, Region, Gone, Accepted, Ignored}

-- one execution of a task: its worker, for a map the records that it leaves out, for a reduce the output
-- of each split's latest fetch, and whether it is still going on
pub record Attempt : Type 0 where
  pub worker : ℕ
  pub task : Task
  pub skips : List ℕ
  pub fetched : List (Option ℕ)
  pub live : Bool

-- failures: for each split the records of its accepted ones
pub record State : Type 0 where
  pub lost : List Bool
  pub splits : List Split
  pub committed : List (Option ℕ)
  pub attempts : List Attempt
  pub failures : List (List ℕ)
  pub end : Option End

abbrev pub opening : Shape → State
opening sh =
    record {
      lost = replicate sh.workers false;
      splits = replicate sh.maps (record { skips = []; fixed = false; output = None });
      committed = replicate sh.parts None;
      attempts = [];
      failures = replicate sh.maps [];
      end = None;
    }

-- ---- words

abbrev pub task_eq : Task → Task → Bool
task_eq (MapTask s) (MapTask t) = s == t
task_eq (ReduceTask p) (ReduceTask q) = p == q
task_eq (MapTask s) (ReduceTask q) = false
task_eq (ReduceTask p) (MapTask t) = false

abbrev pub same_list : List ℕ → List ℕ → Bool
same_list = pointwise nat_eq

-- the element at i changed by f
abbrev pub update_at : {X : Type 0} → (X → X) → ℕ → List X → List X
update_at f i [] = []
update_at f zero (x ∷ xs) = f x ∷ xs
update_at f (suc i) (x ∷ xs) = x ∷ update_at f i xs

abbrev pub by_order : {X : Type 0} → Ordering → X → X → X → X
by_order Less x y z = x
by_order Equal x y z = y
by_order Greater x y z = z

-- the number at its place in a rising list, where it isn't there yet
abbrev pub with_number : ℕ → List ℕ → List ℕ
with_number n [] = n ∷ []
with_number n (m ∷ ms) = by_order (nat_cmp n m) (n ∷ m ∷ ms) (m ∷ ms) (m ∷ with_number n ms)

-- a worker that is there and not lost
abbrev pub is_active : State → ℕ → Bool
is_active st w = option_map_or not (slice_get st.lost w) false

abbrev pub is_complete : State → Task → Bool
is_complete st (MapTask s) = option_map_or (λ sp. is_some sp.output) (slice_get st.splits s) false
is_complete st (ReduceTask p) = option_map_or is_some (slice_get st.committed p) false

abbrev pub maps_complete : State → Bool
maps_complete st = list_all (λ sp. is_some sp.output) st.splits

abbrev pub issued : State → Task → ℕ
issued st t = count_by (λ a. task_eq a.task t) st.attempts

abbrev pub live : State → Task → ℕ
live st t = count_by (λ a. task_eq a.task t && a.live) st.attempts

abbrev pub has_live : State → ℕ → Bool
has_live st w = list_any (λ a. (a.worker == w) && a.live) st.attempts

-- the sizes of all left-out sets together
abbrev pub left_out : State → ℕ
left_out st = sum_by (λ sp. length sp.skips) st.splits

-- ---- tasks that may be given

abbrev pub tasks : Shape → List Task
tasks sh = map MapTask (range_with_len 0 sh.maps) ++ map ReduceTask (range_with_len 0 sh.parts)

abbrev pub is_task : Shape → Task → Bool
is_task sh (MapTask s) = nat_lt s sh.maps
is_task sh (ReduceTask p) = nat_lt p sh.parts

-- not complete, with fewer attempts than there may be, and a reduce only where every map is complete
abbrev pub is_open : Shape → State → Task → Bool
is_open sh st (MapTask s) = not (is_complete st (MapTask s)) && nat_lt (issued st (MapTask s)) sh.limits.attempts
is_open sh st (ReduceTask p) = not (is_complete st (ReduceTask p)) && (nat_lt (issued st (ReduceTask p)) sh.limits.attempts && maps_complete st)

-- an open task that nobody works at
abbrev pub may_newly : Shape → State → Task → Bool
may_newly sh st t = is_open sh st t && (live st t == 0)

-- an open task with one live attempt, of another worker, where there is no new one
abbrev pub may_backup : Shape → State → Task → Bool
may_backup sh st t = is_open sh st t && ((live st t == 1) && not (list_any (may_newly sh st) (tasks sh)))

abbrev pub may_give : Shape → State → ℕ → Task → Bool
may_give sh st w t = is_task sh t && (not (has_live st w) && (may_newly sh st t || may_backup sh st t))

-- ---- changes

abbrev pub finish : ℕ → State → State
finish a st = record st { attempts = update_at (λ t. record t { live = false }) a st.attempts }

abbrev pub nothing_fetched : Shape → Task → List (Option ℕ)
nothing_fetched sh (MapTask s) = []
nothing_fetched sh (ReduceTask p) = replicate sh.maps None

abbrev pub issue : ℕ → Task → List ℕ → Shape → State → State
issue w t skips sh st = record st { attempts = st.attempts ++ record { worker = w; task = t; skips = skips; fetched = nothing_fetched sh t; live = true } ∷ [] }

abbrev pub fetch : ℕ → ℕ → ℕ → State → State
fetch a m o st = record st { attempts = update_at (λ t. record t { fetched = update_at (λ x. Some o) m t.fetched }) a st.attempts }

-- the split is complete, with the records that the attempt left out, from now on
abbrev pub complete : ℕ → List ℕ → ℕ → ℕ → State → State
complete s skips o w st = record st { splits = update_at (λ sp. record { skips = skips; fixed = true; output = Some (o, w) }) s st.splits }

abbrev pub leave_out : ℕ → ℕ → State → State
leave_out s r st = record st { splits = update_at (λ sp. record sp { skips = with_number r sp.skips }) s st.splits }

abbrev pub note_failure : ℕ → ℕ → State → State
note_failure s r st = record st { failures = update_at (λ f. f ++ r ∷ []) s st.failures }

abbrev pub commit : ℕ → ℕ → State → State
commit p o st = record st { committed = update_at (λ x. Some o) p st.committed }

-- the worker is lost, with its live attempt and the outputs that it has
abbrev pub held_by : ℕ → Option (ℕ × ℕ) → Bool
held_by w None = false
held_by w (Some o) = o.1 == w

abbrev pub left_by : ℕ → Attempt → Attempt
left_by w a = record a { live = a.live && not (a.worker == w) }

abbrev pub gone_with : ℕ → Split → Split
gone_with w sp = record sp { output = if held_by w sp.output then None else sp.output }

abbrev pub lose : ℕ → State → State
lose w st =
    record st {
      lost = update_at (λ x. true) w st.lost;
      attempts = map (left_by w) st.attempts;
      splits = map (gone_with w) st.splits;
    }

-- the split has no output any more, where it has the one of this number
abbrev pub is_numbered : ℕ → Option (ℕ × ℕ) → Bool
is_numbered o None = false
is_numbered o (Some x) = x.0 == o

abbrev pub without_output : ℕ → Split → Split
without_output o sp = record sp { output = if is_numbered o sp.output then None else sp.output }

abbrev pub damage : ℕ → ℕ → State → State
damage m o st = record st { splits = update_at (without_output o) m st.splits }

-- ---- ends

-- a task that can't be finished any more
abbrev pub is_stuck : Shape → State → Task → Bool
is_stuck sh st t = not (is_complete st t) && ((live st t == 0) && not (nat_lt (issued st t) sh.limits.attempts))

-- the first end that holds
abbrev pub first_end : (done lost over stuck : Bool) → Option End
first_end done lost over stuck =
    if done then Some Done
    else if lost then Some (Failed NoWorkers)
    else if over then Some (Failed TooManySkips)
    else if stuck then Some (Failed TooManyAttempts)
    else None

-- the end that a state has reached; over: one record too many was to be left out
abbrev pub end_of : Shape → State → Bool → Option End
end_of sh st over = first_end (list_all is_some st.committed) (list_all (λ x. x) st.lost) over (list_any (is_stuck sh st) (tasks sh))

abbrev pub settled : Shape → State → Bool → State
settled sh st over = record st { end = end_of sh st over }

-- ---- the events but Ask: each has one reply

-- the reply, the state before the ends are tested, and whether one record too many was to be left out
pub record Outcome : Type 0 where
  pub reply : Reply
  pub state : State
  pub over : Bool

abbrev pub replies : Reply → State → Outcome
replies r st = record { reply = r; state = st; over = false }

-- the attempt of this number, where it is live
abbrev pub only_live : Option Attempt → Option Attempt
only_live None = None
only_live (Some a) = if a.live then Some a else None

abbrev pub live_attempt : State → ℕ → Option Attempt
live_attempt st a = only_live (slice_get st.attempts a)

abbrev pub fetched_from : State → ℕ → ℕ → Option (ℕ × ℕ) → Outcome
fetched_from st a m None = replies Gone (finish a st)
fetched_from st a m (Some o) = replies (Region (o.0)) (fetch a m (o.0) st)

abbrev pub fetch_by : State → ℕ → ℕ → Task → Option Split → Outcome
fetch_by st a m (ReduceTask p) (Some sp) = fetched_from st a m sp.output
fetch_by st a m (ReduceTask p) None = replies Ignored st
fetch_by st a m (MapTask s) sp = replies Ignored st

-- the split still wants an output, and takes one that leaves out these records
abbrev pub takes : List ℕ → Option Split → Bool
takes skips None = false
takes skips (Some sp) = is_none sp.output && (not sp.fixed || same_list sp.skips skips)

abbrev pub map_done_by : State → ℕ → ℕ → Attempt → Task → Outcome
map_done_by st a o at (ReduceTask p) = replies Ignored st
map_done_by st a o at (MapTask s) =
    if takes at.skips (slice_get st.splits s) then replies Accepted (complete s at.skips o at.worker (finish a st)) else replies Ignored (finish a st)

-- the record has failed before, and may yet be left out
abbrev pub may_leave_out : ℕ → Option Split → Bool
may_leave_out r None = false
may_leave_out r (Some sp) = not sp.fixed && not (list_any (λ x. x == r) sp.skips)

abbrev pub failed_before : State → ℕ → ℕ → Bool
failed_before st s r = option_map_or (λ f. list_any (λ x. x == r) f) (slice_get st.failures s) false

abbrev pub map_failed_by : Shape → State → ℕ → ℕ → Task → Outcome
map_failed_by sh st a r (ReduceTask p) = replies Ignored st
map_failed_by sh st a r (MapTask s) =
    let noted = note_failure s r (finish a st) in
    if failed_before st s r && may_leave_out r (slice_get st.splits s)
    then (if nat_lt (left_out st) sh.limits.skips then replies Accepted (leave_out s r noted) else record { reply = Accepted; state = noted; over = true })
    else replies Accepted noted

abbrev pub reduce_done_by : State → ℕ → ℕ → Attempt → Task → Outcome
reduce_done_by st a o at (MapTask s) = replies Ignored st
reduce_done_by st a o at (ReduceTask p) =
    if not (is_complete st (ReduceTask p)) && list_all is_some at.fetched then replies Accepted (commit p o (finish a st)) else replies Ignored (finish a st)

-- the output of the latest fetch of a split, where there was one
abbrev pub latest_in : Option (Option ℕ) → Option ℕ
latest_in None = None
latest_in (Some o) = o

abbrev pub damaged_from : State → ℕ → ℕ → Option ℕ → Outcome
damaged_from st a m None = replies Ignored (finish a st)
damaged_from st a m (Some o) = replies Accepted (damage m o (finish a st))

abbrev pub damaged_by : State → ℕ → ℕ → Attempt → Task → Outcome
damaged_by st a m at (MapTask s) = replies Ignored st
damaged_by st a m at (ReduceTask p) = damaged_from st a m (latest_in (slice_get at.fetched m))

abbrev pub on_live : State → Option Attempt → (Attempt → Outcome) → Outcome
on_live st None f = replies Ignored st
on_live st (Some at) f = f at

-- an ask has no outcome of this kind: `next_going` doesn't come here with it, and the line stands only to cover every event
abbrev pub outcome : Shape → State → Event → Outcome
outcome sh st (Ask w) = replies Ignored st
outcome sh st (Fetch a m) = on_live st (live_attempt st a) (λ at. fetch_by st a m at.task (slice_get st.splits m))
outcome sh st (MapDone a o) = on_live st (live_attempt st a) (λ at. map_done_by st a o at at.task)
outcome sh st (MapFailed a r) = on_live st (live_attempt st a) (λ at. map_failed_by sh st a r at.task)
outcome sh st (ReduceDone a o) = on_live st (live_attempt st a) (λ at. reduce_done_by st a o at at.task)
outcome sh st (Lose w) = if is_active st w then replies Accepted (lose w st) else replies Ignored st
outcome sh st (Damaged a m) = on_live st (live_attempt st a) (λ at. damaged_by st a m at at.task)

-- ---- one step

abbrev pub end_eq : End → End → Bool
end_eq Done Done = true
end_eq Dismissed Dismissed = true
end_eq (Failed TooManyAttempts) (Failed TooManyAttempts) = true
end_eq (Failed TooManySkips) (Failed TooManySkips) = true
end_eq (Failed NoWorkers) (Failed NoWorkers) = true
end_eq _ _ = false

abbrev pub reply_eq : Reply → Reply → Bool
reply_eq (Map a s k) (Map b t l) = (a == b) && ((s == t) && same_list k l)
reply_eq (Reduce a p) (Reduce b q) = (a == b) && (p == q)
reply_eq Wait Wait = true
reply_eq (Stop e) (Stop f) = end_eq e f
reply_eq (Region o) (Region p) = o == p
reply_eq Gone Gone = true
reply_eq Accepted Accepted = true
reply_eq Ignored Ignored = true
reply_eq _ _ = false

-- what an active worker may be answered
abbrev pub given : Shape → State → ℕ → Reply → Option State
-- a map task that may be given, as the next attempt, with the split's left-out records as they are now
given sh st w (Map a s skips) =
    if (a == length st.attempts) && (may_give sh st w (MapTask s) && option_map_or (λ sp. same_list sp.skips skips) (slice_get st.splits s) false) then Some (issue w (MapTask s) skips sh st) else None
-- a reduce task that may be given, as the next attempt
given sh st w (Reduce a p) = if (a == length st.attempts) && may_give sh st w (ReduceTask p) then Some (issue w (ReduceTask p) [] sh st) else None
-- where no task may be given, that there is none now
given sh st w Wait = if list_any (may_give sh st w) (tasks sh) then None else Some st
-- and nothing else
given sh st w _ = None

abbrev pub then_settled : Shape → Option State → Option State
then_settled sh None = None
then_settled sh (Some st) = Some (settled sh st false)

abbrev pub asked : Shape → State → ℕ → Reply → Option State
asked sh st w reply = if is_active st w then given sh st w reply else if reply_eq reply (Stop Dismissed) then Some st else None

abbrev pub next_going : Shape → State → Event → Reply → Option State
next_going sh st (Ask w) reply = then_settled sh (asked sh st w reply)
next_going sh st event reply = let out = outcome sh st event in if reply_eq reply out.reply then Some (settled sh out.state out.over) else None

-- once the job has ended
abbrev pub reply_ended : End → Event → Reply
reply_ended e (Ask w) = Stop e
reply_ended e _ = Ignored

abbrev pub next_by : Shape → State → Event → Reply → Option End → Option State
next_by sh st event reply (Some e) = if reply_eq reply (reply_ended e event) then Some st else None
next_by sh st event reply None = next_going sh st event reply

-- the state after this event with this reply; none where the reply isn't allowed
abbrev pub next : Shape → State → Event → Reply → Option State
next sh st event reply = next_by sh st event reply st.end

abbrev pub Step : Shape → State → Event → Reply → State → Type 0
Step sh old event reply new = next sh old event reply ≡ Some new

-- ---- runs

-- these events with these replies, one step after another
abbrev pub Run : Shape → State → List (Event × Reply) → State → Type 0
Run sh old [] new = new ≡ old
Run sh old (e ∷ es) new = (mid : State) × Step sh old (e.0) (e.1) mid × Run sh mid es new

abbrev pub replay_from : Shape → Option State → List (Event × Reply) → Option State
replay_from sh None es = None
replay_from sh (Some st) [] = Some st
replay_from sh (Some st) (e ∷ es) = replay_from sh (next sh st (e.0) (e.1)) es

abbrev pub replay : Shape → List (Event × Reply) → Option State
replay sh es = replay_from sh (Some (opening sh)) es
