-- Below the cursors no task is idle, after each change.
use Rattle.std.proofs.Common.{◌≡◌, ℕ, zero, suc, ◌<◌, ◌≤◌, Option, Some, None, List, [], ◌∷◌, ◌++◌, length, slice_get, refl, ap, sym, ◌∙◌, subst, inl, inr, arith, Bool, true, false, cond, not, ◌&&◌, ◌==◌, is_some}
use Rattle.std.specs.List.{count_by}
use Rattle.std.specs.Option.{option_map_or}
use Rattle.std.proofs.lemmas.Bool.{cases_eq, false≢true}
use Rattle.std.proofs.lemmas.Bool.Decides.{nat_tests}
use Rattle.std.proofs.lemmas.List.{length-map}
use Rattle.std.proofs.lemmas.List.Sums.{sum_by_push}
use Rattle.mr_core.specs.declared.event.Task.{Task}
use Rattle.mr_core.specs.declared.event.Task.TheVariants.{Map as MapTask, Reduce as ReduceTask}
use Rattle.mr_core.specs.declared.entries.Split.{Split}
use Rattle.mr_core.specs.Master.{State, Attempt, update_at, task_eq, is_complete, live, finish, fetch, commit, lose}
use Rattle.mr_core.specs.Index.{Issued, IsTabled, IsBelow}
use Rattle.mr_core.proofs.Places.{get-update_here, get-update_other}
use Rattle.mr_core.proofs.Progress.{length-update}
use Rattle.mr_core.proofs.Indexed.{count-update, count_same, same_task}

not_zero : (l : ℕ) → 1 ≤ l → (l == 0) ≡ false
not_zero l h = grind (arith, nat_tests)

some_of : (l : ℕ) → (l == 0) ≡ false → 1 ≤ l
some_of l e = grind (arith, nat_tests)

-- what was not idle isn't idle where it is still complete, or somebody still at it
pub busy : (c d : Bool) (l m : ℕ) → (not c && (l == 0)) ≡ false → (c ≡ true → d ≡ true) → (1 ≤ l → 1 ≤ m) → (not d && (m == 0)) ≡ false
busy true d l m e f g = rw (f refl) refl
busy false true l m e f g = refl
busy false false l m e f g = not_zero m (g (some_of l e))

-- the live attempts of another task
pub live_other : (xs : List Attempt) (a : ℕ) (x : Attempt) (t : Task) → slice_get xs a ≡ Some x → (x.task ≡ t → ⊥) → count_by (λ b. task_eq b.task t && b.live) (update_at (λ b. record b { live = false }) a xs) ≡ count_by (λ b. task_eq b.task t && b.live) xs
live_other xs a x t at apart = by (task_eq x.task t) refl
  where
    by : (b : Bool) → task_eq x.task t ≡ b → count_by (λ b. task_eq b.task t && b.live) (update_at (λ b. record b { live = false }) a xs) ≡ count_by (λ b. task_eq b.task t && b.live) xs
    by true e = absurd (apart (same_task x.task t e))
    by false e =
        let was : ◌≡◌ {A = ℕ} (cond (task_eq x.task t && x.live) 1 0) 0 = ap (λ b. cond (b && x.live) 1 0) e in
        let is : ◌≡◌ {A = ℕ} (cond (task_eq x.task t && false) 1 0) 0 = ap (λ b. cond (b && false) 1 0) e in
        omega (arith, was, is, count-update (λ (b : Attempt). task_eq b.task t && b.live) (λ b. record b { live = false }) a xs x at)

module _ (st : State) (iss : Issued) (nm np : ℕ) (tab : IsTabled st iss nm np) where
  -- the cursors stand below the task of the attempt that has ended
  pub tabled_end : (a : ℕ) (x : Attempt) (nm' np' : ℕ) (failures : List (List ℕ)) → slice_get st.attempts a ≡ Some x → nm' ≤ nm → np' ≤ np → ((s : ℕ) → x.task ≡ MapTask s → nm' ≤ s) → ((p : ℕ) → x.task ≡ ReduceTask p → np' ≤ p)
      → IsTabled (record (finish a st) { failures = failures }) (record iss { items = update_at (λ b. record b { live = false }) a iss.items }) nm' np'
  tabled_end a x nm' np' failures at back back' here here' = record {
    maps = tab.maps;
    parts = tab.parts;
    workers = tab.workers;
    idle_maps = λ s h. busy (is_complete st (MapTask s)) _ (live st (MapTask s)) _ (tab.idle_maps s (omega (arith, back, h))) (λ e. e) (λ l. omega (arith, l, live_other st.attempts a x (MapTask s) at (λ e. let k : nm' ≤ s = here s e in absurd (omega (arith, k, h)))));
    idle_parts = λ p h. busy (is_complete st (ReduceTask p)) _ (live st (ReduceTask p)) _ (tab.idle_parts p (omega (arith, back', h))) (λ e. e) (λ l. omega (arith, l, live_other st.attempts a x (ReduceTask p) at (λ e. let k : np' ≤ p = here' p e in absurd (omega (arith, k, h)))));
  }

  -- what is left out isn't seen
  pub tabled_leave : (f : Split → Split) → ((sp : Split) → (f sp).output ≡ sp.output) → (i : ℕ) → IsTabled (record st { splits = update_at f i st.splits }) iss nm np
  tabled_leave f same i = record {
    maps = tab.maps ∙ sym (length-update f i st.splits);
    parts = tab.parts;
    workers = tab.workers;
    idle_maps = λ s h. busy (is_complete st (MapTask s)) _ (live st (MapTask s)) _ (tab.idle_maps s h) (λ e. kept s (slice_get st.splits s) refl e) (λ l. l);
    idle_parts = tab.idle_parts;
  }
    where
      kept : (s : ℕ) (o : Option Split) → slice_get st.splits s ≡ o → option_map_or (λ (sp : Split). is_some sp.output) (slice_get st.splits s) false ≡ true → option_map_or (λ (sp : Split). is_some sp.output) (slice_get (update_at f i st.splits) s) false ≡ true
      kept s None is e = absurd (false≢true (sym (ap (λ (o : Option Split). option_map_or (λ (sp : Split). is_some sp.output) o false) is) ∙ e))
      kept s (Some sp) is e =
          let was : is_some sp.output ≡ true = sym (ap (λ (o : Option Split). option_map_or (λ (sp : Split). is_some sp.output) o false) is) ∙ e in
          elim (cases_eq i s) [
            | inl here ↦ (
                let now : slice_get (update_at f i st.splits) s ≡ Some (f sp) = ap (slice_get (update_at f i st.splits)) (sym here) ∙ get-update_here f i st.splits sp (ap (slice_get st.splits) here ∙ is) in
                ap (λ (o : Option Split). option_map_or (λ (sp : Split). is_some sp.output) o false) now ∙ ap is_some (same sp) ∙ was
                )
            | inr other ↦ ap (λ (o : Option Split). option_map_or (λ (sp : Split). is_some sp.output) o false) (get-update_other f i s st.splits other) ∙ e
          ]

  -- the split has no output any more, and the cursor stands at it or below
  pub tabled_empty : (f : Split → Split) (i nm' : ℕ) → nm' ≤ nm → nm' ≤ i → IsTabled (record st { splits = update_at f i st.splits }) iss nm' np
  tabled_empty f i nm' back low = record {
    maps = tab.maps ∙ sym (length-update f i st.splits);
    parts = tab.parts;
    workers = tab.workers;
    idle_maps = λ s h. busy (is_complete st (MapTask s)) _ (live st (MapTask s)) _ (tab.idle_maps s (omega (arith, back, h))) (λ e. ap (λ (o : Option Split). option_map_or (λ (sp : Split). is_some sp.output) o false) (get-update_other f i s st.splits (λ d. absurd (omega (arith, low, h, d)))) ∙ e) (λ l. l);
    idle_parts = tab.idle_parts;
  }

  -- the split of the attempt that has ended is complete
  pub tabled_complete : (a s : ℕ) (x : Attempt) (f : Split → Split) → slice_get st.attempts a ≡ Some x → x.task ≡ MapTask s → IsBelow iss.maps iss.parts x.task → ((sp : Split) → is_some (f sp).output ≡ true)
      → IsTabled (record (finish a st) { splits = update_at f s st.splits }) (record iss { items = update_at (λ b. record b { live = false }) a iss.items }) nm np
  tabled_complete a s x f at is below has = record {
    maps = tab.maps ∙ sym (length-update f s st.splits);
    parts = tab.parts;
    workers = tab.workers;
    idle_maps = λ r h. elim (cases_eq s r) [
      | inl same ↦ (let now : is_complete (record (finish a st) { splits = update_at f s st.splits }) (MapTask r) ≡ true = subst (λ (k : ℕ). option_map_or (λ (sp : Split). is_some sp.output) (slice_get (update_at f s st.splits) k) false ≡ true) same whole in rw now refl)
      | inr other ↦ busy (is_complete st (MapTask r)) _ (live st (MapTask r)) _ (tab.idle_maps r h) (λ e. ap (λ (o : Option Split). option_map_or (λ (sp : Split). is_some sp.output) o false) (get-update_other f s r st.splits other) ∙ e) (λ l. omega (arith, l, live_other st.attempts a x (MapTask r) at (λ e. let d : MapTask s ≡ MapTask r = sym is ∙ e in other (cc d))))
    ];
    idle_parts = λ p h. busy (is_complete st (ReduceTask p)) _ (live st (ReduceTask p)) _ (tab.idle_parts p h) (λ e. e) (λ l. omega (arith, l, live_other st.attempts a x (ReduceTask p) at (λ e. let d : MapTask s ≡ ReduceTask p = sym is ∙ e in cc d)));
  }
    where
      there : (xs : List Split) (i : ℕ) → i < length xs → (sp : Split) × (slice_get xs i ≡ Some sp)
      there [] i h = absurd (omega arith)
      there (x ∷ xs) zero h = (x, refl)
      there (x ∷ xs) (suc i) h = there xs i (omega arith)

      whole : option_map_or (λ (sp : Split). is_some sp.output) (slice_get (update_at f s st.splits) s) false ≡ true
      whole =
          let low : s < iss.maps = subst (IsBelow iss.maps iss.parts) is below in
          let sp = there st.splits s (omega (arith, low, tab.maps)) in
          ap (λ (o : Option Split). option_map_or (λ (sp : Split). is_some sp.output) o false) (get-update_here f s st.splits sp.0 sp.1) ∙ has sp.0

  -- the partition of the attempt that has ended is committed
  pub tabled_commit : (a p o : ℕ) (x : Attempt) → slice_get st.attempts a ≡ Some x → x.task ≡ ReduceTask p → IsBelow iss.maps iss.parts x.task
      → IsTabled (commit p o (finish a st)) (record iss { items = update_at (λ b. record b { live = false }) a iss.items }) nm np
  tabled_commit a p o x at is below = record {
    maps = tab.maps;
    parts = tab.parts ∙ sym (length-update (λ y. Some o) p st.committed);
    workers = tab.workers;
    idle_maps = λ s h. busy (is_complete st (MapTask s)) _ (live st (MapTask s)) _ (tab.idle_maps s h) (λ e. e) (λ l. omega (arith, l, live_other st.attempts a x (MapTask s) at (λ e. let d : ReduceTask p ≡ MapTask s = sym is ∙ e in cc d)));
    idle_parts = λ q h. elim (cases_eq p q) [
      | inl same ↦ (let now : is_complete (commit p o (finish a st)) (ReduceTask q) ≡ true = subst (λ (k : ℕ). option_map_or is_some (slice_get (update_at (λ y. Some o) p st.committed) k) false ≡ true) same whole in rw now refl)
      | inr other ↦ busy (is_complete st (ReduceTask q)) _ (live st (ReduceTask q)) _ (tab.idle_parts q h) (λ e. ap (λ (r : Option (Option ℕ)). option_map_or is_some r false) (get-update_other (λ y. Some o) p q st.committed other) ∙ e) (λ l. omega (arith, l, live_other st.attempts a x (ReduceTask q) at (λ e. let d : ReduceTask p ≡ ReduceTask q = sym is ∙ e in other (cc d))))
    ];
  }
    where
      there : (xs : List (Option ℕ)) (i : ℕ) → i < length xs → (y : Option ℕ) × (slice_get xs i ≡ Some y)
      there [] i h = absurd (omega arith)
      there (x ∷ xs) zero h = (x, refl)
      there (x ∷ xs) (suc i) h = there xs i (omega arith)

      whole : option_map_or is_some (slice_get (update_at (λ y. Some o) p st.committed) p) false ≡ true
      whole =
          let low : p < iss.parts = subst (IsBelow iss.maps iss.parts) is below in
          let y = there st.committed p (omega (arith, low, tab.parts)) in
          ap (λ (r : Option (Option ℕ)). option_map_or is_some r false) (get-update_here (λ z. Some o) p st.committed y.0 y.1)

  pub tabled_fetch : (a m o : ℕ) → IsTabled (fetch a m o st) (record iss { items = update_at (λ t. record t { fetched = update_at (λ x. Some o) m t.fetched }) a iss.items }) nm np
  tabled_fetch a m o = record {
    maps = tab.maps;
    parts = tab.parts;
    workers = tab.workers;
    idle_maps = λ s h. busy (is_complete st (MapTask s)) _ (live st (MapTask s)) _ (tab.idle_maps s h) (λ e. e) (λ l. omega (arith, l, same (MapTask s)));
    idle_parts = λ p h. busy (is_complete st (ReduceTask p)) _ (live st (ReduceTask p)) _ (tab.idle_parts p h) (λ e. e) (λ l. omega (arith, l, same (ReduceTask p)));
  }
    where
      same : (t : Task) → count_by (λ b. task_eq b.task t && b.live) (update_at (λ t. record t { fetched = update_at (λ x. Some o) m t.fetched }) a st.attempts) ≡ count_by (λ b. task_eq b.task t && b.live) st.attempts
      same t = count_same (λ b. task_eq b.task t && b.live) (λ t. record t { fetched = update_at (λ x. Some o) m t.fetched }) (λ b. refl) a st.attempts

  pub tabled_push : (x : Attempt) → IsTabled (record st { attempts = st.attempts ++ x ∷ [] }) (record iss { items = iss.items ++ x ∷ [] }) nm np
  tabled_push x = record {
    maps = tab.maps;
    parts = tab.parts;
    workers = tab.workers;
    idle_maps = λ s h. busy (is_complete st (MapTask s)) _ (live st (MapTask s)) _ (tab.idle_maps s h) (λ e. e) (λ l. omega (arith, l, more (MapTask s)));
    idle_parts = λ p h. busy (is_complete st (ReduceTask p)) _ (live st (ReduceTask p)) _ (tab.idle_parts p h) (λ e. e) (λ l. omega (arith, l, more (ReduceTask p)));
  }
    where
      more : (t : Task) → count_by (λ b. task_eq b.task t && b.live) st.attempts ≤ count_by (λ b. task_eq b.task t && b.live) (st.attempts ++ x ∷ [])
      more t = omega (arith, sum_by_push (λ (b : Attempt). cond (task_eq b.task t && b.live) 1 0) st.attempts x)

  pub tabled_lose : (w : ℕ) (xs : List Attempt) → IsTabled (record (lose w st) { attempts = xs }) (record iss { items = xs }) 0 0
  tabled_lose w xs = record {
    maps = tab.maps ∙ sym (length-map st.splits _);
    parts = tab.parts;
    workers = tab.workers ∙ sym (length-update (λ x. true) w st.lost);
    idle_maps = λ s h. absurd (omega arith);
    idle_parts = λ p h. absurd (omega arith);
  }

-- as the calls leave them
pub tabled_ended : (st : State) (iss now : Issued) (nm np : ℕ) → IsTabled (record st { attempts = iss.items }) iss nm np → (a : ℕ) (x : Attempt) (nm' np' : ℕ) → now ≡ record iss { items = update_at (λ b. record b { live = false }) a iss.items }
    → slice_get iss.items a ≡ Some x → nm' ≤ nm → np' ≤ np → ((s : ℕ) → x.task ≡ MapTask s → nm' ≤ s) → ((p : ℕ) → x.task ≡ ReduceTask p → np' ≤ p) → IsTabled (record st { attempts = now.items }) now nm' np'
tabled_ended st iss now nm np tab a x nm' np' e at back back' here here' =
    subst (λ (w : Issued). IsTabled (record st { attempts = w.items }) w nm' np') (sym e) (tabled_end (record st { attempts = iss.items }) iss nm np tab a x nm' np' st.failures at back back' here here')

pub tabled_failed : (st : State) (iss now : Issued) (nm np : ℕ) → IsTabled (record st { attempts = iss.items }) iss nm np → (a : ℕ) (x : Attempt) (nm' : ℕ) (splits : List Split) (failures : List (List ℕ)) (adds : Bool) (f : Split → Split) (s : ℕ)
    → now ≡ record iss { items = update_at (λ b. record b { live = false }) a iss.items } → slice_get iss.items a ≡ Some x → x.task ≡ MapTask s → nm' ≤ nm → nm' ≤ s → ((sp : Split) → (f sp).output ≡ sp.output)
    → (adds ≡ false → splits ≡ st.splits) → (adds ≡ true → splits ≡ update_at f s st.splits) → IsTabled (record st { splits = splits; attempts = now.items; failures = failures }) now nm' np
tabled_failed st iss now nm np tab a x nm' splits failures adds f s e at is back low same noted added = by adds noted added
  where
    less : (r : ℕ) → x.task ≡ MapTask r → nm' ≤ r
    less r d = let m : MapTask s ≡ MapTask r = sym is ∙ d in let n : s ≡ r = cc m in omega (arith, low, n)

    over : IsTabled (record st { attempts = now.items; failures = failures }) now nm' np
    over = subst (λ (w : Issued). IsTabled (record st { attempts = w.items; failures = failures }) w nm' np) (sym e) (tabled_end (record st { attempts = iss.items }) iss nm np tab a x nm' np failures at back (omega arith) less (λ p d. let m : MapTask s ≡ ReduceTask p = sym is ∙ d in absurd (cc m)))

    by : (b : Bool) → (b ≡ false → splits ≡ st.splits) → (b ≡ true → splits ≡ update_at f s st.splits) → IsTabled (record st { splits = splits; attempts = now.items; failures = failures }) now nm' np
    by false g h = subst (λ (w : List Split). IsTabled (record st { splits = w; attempts = now.items; failures = failures }) now nm' np) (sym (g refl)) over
    by true g h = subst (λ (w : List Split). IsTabled (record st { splits = w; attempts = now.items; failures = failures }) now nm' np) (sym (h refl)) (tabled_leave (record st { attempts = now.items; failures = failures }) now nm' np over f same s)

pub tabled_completed : (st : State) (iss now : Issued) (nm np : ℕ) → IsTabled (record st { attempts = iss.items }) iss nm np → (a s : ℕ) (x : Attempt) (splits : List Split) (f : Split → Split) → now ≡ record iss { items = update_at (λ b. record b { live = false }) a iss.items }
    → slice_get iss.items a ≡ Some x → x.task ≡ MapTask s → IsBelow iss.maps iss.parts x.task → ((sp : Split) → is_some (f sp).output ≡ true) → splits ≡ update_at f s st.splits → IsTabled (record st { splits = splits; attempts = now.items }) now nm np
tabled_completed st iss now nm np tab a s x splits f e at is below has g =
    subst (λ (w : Issued). IsTabled (record st { splits = splits; attempts = w.items }) w nm np) (sym e) (subst (λ (w : List Split). IsTabled (record st { splits = w; attempts = update_at (λ b. record b { live = false }) a iss.items }) (record iss { items = update_at (λ b. record b { live = false }) a iss.items }) nm np) (sym g) (tabled_complete (record st { attempts = iss.items }) iss nm np tab a s x f at is below has))

pub tabled_committed : (st : State) (iss now : Issued) (nm np : ℕ) → IsTabled (record st { attempts = iss.items }) iss nm np → (a p o : ℕ) (x : Attempt) (outs : List (Option ℕ)) → now ≡ record iss { items = update_at (λ b. record b { live = false }) a iss.items }
    → slice_get iss.items a ≡ Some x → x.task ≡ ReduceTask p → IsBelow iss.maps iss.parts x.task → outs ≡ update_at (λ y. Some o) p st.committed → IsTabled (record st { committed = outs; attempts = now.items }) now nm np
tabled_committed st iss now nm np tab a p o x outs e at is below g =
    subst (λ (w : Issued). IsTabled (record st { committed = outs; attempts = w.items }) w nm np) (sym e) (subst (λ (w : List (Option ℕ)). IsTabled (record st { committed = w; attempts = update_at (λ b. record b { live = false }) a iss.items }) (record iss { items = update_at (λ b. record b { live = false }) a iss.items }) nm np) (sym g) (tabled_commit (record st { attempts = iss.items }) iss nm np tab a p o x at is below))
