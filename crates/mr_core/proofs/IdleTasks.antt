-- Idle tasks are those that may be given anew, where no task is stuck.
use Rattle.std.proofs.Common.{◌≡◌, ℕ, ◌<◌, ◌≤◌, refl, arith, Bool, true, false, not, ◌&&◌, ◌==◌, nat_lt}
use Rattle.std.specs.List.{list_any}
use Rattle.std.proofs.lemmas.Bool.{lt-ltb, ltb-true, false≢true, true≢false}
use Rattle.mr_core.specs.declared.event.Task.{Task}
use Rattle.mr_core.specs.declared.event.Shape.{Shape}
use Rattle.mr_core.specs.declared.event.Task.TheVariants.{Map as MapTask, Reduce as ReduceTask}
use Rattle.mr_core.specs.Master.{State, tasks, is_task, may_newly, is_complete, issued, live, maps_complete}
use Rattle.mr_core.specs.Index.{is_idle, IsGoing}
use Rattle.mr_core.proofs.EndTests.{none_of_tasks}

map_open : (c f l : Bool) → (not c && l) ≡ true → (not c && (l && not f)) ≡ false → ((not c && f) && l) ≡ true
map_open true f l e d = absurd (false≢true e)
map_open false f false e d = absurd (false≢true e)
map_open false true true e d = refl
map_open false false true e d = absurd (true≢false d)

part_open : (c f m l : Bool) → m ≡ true → (not c && l) ≡ true → (not c && (l && not f)) ≡ false → ((not c && (f && m)) && l) ≡ true
part_open true f m l w e d = absurd (false≢true e)
part_open false f m false w e d = absurd (false≢true e)
part_open false true true true w e d = refl
part_open false true false true w e d = absurd (false≢true w)
part_open false false m true w e d = absurd (true≢false d)

pub newly_map : (sh : Shape) (st : State) (s : ℕ) → IsGoing sh st → s < sh.maps → is_idle st (MapTask s) ≡ true → (may_newly sh st (MapTask s) ≡ true) × (is_task sh (MapTask s) ≡ true)
newly_map sh st s going h idle = (map_open (is_complete st (MapTask s)) (nat_lt (issued st (MapTask s)) sh.limits.attempts) (live st (MapTask s) == 0) idle (going.whole (MapTask s) (lt-ltb s sh.maps h)), lt-ltb s sh.maps h)

pub newly_part : (sh : Shape) (st : State) (p : ℕ) → IsGoing sh st → maps_complete st ≡ true → p < sh.parts → is_idle st (ReduceTask p) ≡ true → (may_newly sh st (ReduceTask p) ≡ true) × (is_task sh (ReduceTask p) ≡ true)
newly_part sh st p going whole h idle = (part_open (is_complete st (ReduceTask p)) (nat_lt (issued st (ReduceTask p)) sh.limits.attempts) (maps_complete st) (live st (ReduceTask p) == 0) whole idle (going.whole (ReduceTask p) (lt-ltb p sh.parts h)), lt-ltb p sh.parts h)

map_closed : (c f l : Bool) → (not c && l) ≡ false → ((not c && f) && l) ≡ false
map_closed true f l e = refl
map_closed false true l e = e
map_closed false false l e = refl

part_closed : (c f m l : Bool) → (not c && l) ≡ false → ((not c && (f && m)) && l) ≡ false
part_closed true f m l e = refl
part_closed false true true l e = e
part_closed false true false l e = refl
part_closed false false m l e = refl

part_waits : (c f m l : Bool) → m ≡ false → ((not c && (f && m)) && l) ≡ false
part_waits true f m l e = refl
part_waits false true true l e = absurd (true≢false e)
part_waits false true false l e = refl
part_waits false false m l e = refl

none_of_maps : (sh : Shape) (st : State) (n : ℕ) → sh.maps ≤ n → ((s : ℕ) → s < n → is_idle st (MapTask s) ≡ false) → (s : ℕ) → is_task sh (MapTask s) ≡ true → may_newly sh st (MapTask s) ≡ false
none_of_maps sh st n all idle s is = map_closed (is_complete st (MapTask s)) (nat_lt (issued st (MapTask s)) sh.limits.attempts) (live st (MapTask s) == 0) (idle s (let h = ltb-true s sh.maps is in omega (arith, h, all)))

pub none_waiting : (sh : Shape) (st : State) (n : ℕ) → sh.maps ≤ n → ((s : ℕ) → s < n → is_idle st (MapTask s) ≡ false) → maps_complete st ≡ false → list_any (may_newly sh st) (tasks sh) ≡ false
none_waiting sh st n all idle waits = none_of_tasks (may_newly sh st) sh each
  where
    each : (t : Task) → is_task sh t ≡ true → may_newly sh st t ≡ false
    each (MapTask s) is = none_of_maps sh st n all idle s is
    each (ReduceTask p) is = part_waits (is_complete st (ReduceTask p)) (nat_lt (issued st (ReduceTask p)) sh.limits.attempts) (maps_complete st) (live st (ReduceTask p) == 0) waits

pub none_at_all : (sh : Shape) (st : State) (n m : ℕ) → sh.maps ≤ n → ((s : ℕ) → s < n → is_idle st (MapTask s) ≡ false) → sh.parts ≤ m → ((p : ℕ) → p < m → is_idle st (ReduceTask p) ≡ false) → list_any (may_newly sh st) (tasks sh) ≡ false
none_at_all sh st n m all idle all_parts idle_parts = none_of_tasks (may_newly sh st) sh each
  where
    each : (t : Task) → is_task sh t ≡ true → may_newly sh st t ≡ false
    each (MapTask s) is = none_of_maps sh st n all idle s is
    each (ReduceTask p) is = part_closed (is_complete st (ReduceTask p)) (nat_lt (issued st (ReduceTask p)) sh.limits.attempts) (maps_complete st) (live st (ReduceTask p) == 0) (idle_parts p (let h = ltb-true p sh.parts is in omega (arith, h, all_parts)))
