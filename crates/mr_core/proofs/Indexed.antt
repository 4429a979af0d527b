-- The attempts' index is right after each change of the attempts.
use Rattle.std.proofs.Common.{◌≡◌, ℕ, zero, suc, ◌<◌, ◌≤◌, ◌+◌, ◌-◌, Option, Some, None, List, [], ◌∷◌, ◌++◌, length, map, take, drop, replicate, slice_get, slice_index_or, refl, ap, sym, ◌∙◌, subst, inl, inr, ◌⊎◌, arith, Bool, true, false, cond, not, ◌&&◌, ◌==◌, eq-eqb}
use Rattle.std.specs.List.{list_any, count_by}
use Rattle.std.proofs.lemmas.Bool.{or_parts, cases_eq, false≢true, eqb-true}
use Rattle.std.proofs.lemmas.List.Sums.{sum_by-cons, sum_by_push}
use Rattle.std.proofs.Math.Seq.{take-append_seam}
use Rattle.mr_core.specs.declared.event.Task.{Task}
use Rattle.mr_core.specs.declared.event.Task.TheVariants.{Map as MapTask, Reduce as ReduceTask}
use Rattle.mr_core.specs.declared.attempts.Count.{Count}
use Rattle.mr_core.specs.Master.{Attempt, update_at, task_eq, left_by}
use Rattle.std.specs.Prelude.{MatchOption, slice_set}
use Rattle.mr_core.proofs.Updates.{get_at, update_is_set}
use Rattle.mr_core.specs.Index.{Issued, entry, CountsView, no_count, or_none, count_of, begun, ended, change_count, IsBelow, counted, IsIndexed, IsCurrent}
use Rattle.mr_core.proofs.Places.{get-update_here, get-update_other, sum-update, get-push_old, get-update_from}
use Rattle.mr_core.proofs.Progress.{length-update}

update_counted : (f : Count → Count) (xs : List Count) (i : ℕ) (v : Count) → v ≡ f (or_none (slice_get xs i)) → update_at (λ y. v) i xs ≡ update_at f i xs
update_counted f [] i v e = refl
update_counted f (x ∷ xs) zero v e = ap (λ z. z ∷ xs) e
update_counted f (x ∷ xs) (suc i) v e = ap (λ ys. x ∷ ys) (update_counted f xs i v e)

pub change_counted : (f : Count → Count) (t : Task) (v : CountsView) (x : Count) → x ≡ f (count_of v t) → change_count (λ y. x) t v ≡ change_count f t v
change_counted f (MapTask s) v x e = ap (λ (xs : List Count). let u : CountsView = record v { maps = xs } in u) (update_counted f v.maps s x e)
change_counted f (ReduceTask p) v x e = ap (λ (xs : List Count). let u : CountsView = record v { parts = xs } in u) (update_counted f v.parts p x e)

-- ---- one task's count

at_here : (f : Count → Count) (xs : List Count) (i : ℕ) → i < length xs → or_none (slice_get (update_at f i xs) i) ≡ f (or_none (slice_get xs i))
at_here f [] i h = absurd (omega arith)
at_here f (x ∷ xs) zero h = refl
at_here f (x ∷ xs) (suc i) h = at_here f xs i (omega arith)

change_here : (f : Count → Count) (t : Task) (v : CountsView) → IsBelow (length v.maps) (length v.parts) t → count_of (change_count f t v) t ≡ f (count_of v t)
change_here f (MapTask s) v h = at_here f v.maps s h
change_here f (ReduceTask p) v h = at_here f v.parts p h

change_other : (f : Count → Count) (t u : Task) (v : CountsView) → task_eq t u ≡ false → count_of (change_count f t v) u ≡ count_of v u
change_other f (MapTask s) (MapTask r) v ne = ap or_none (get-update_other f s r v.maps (λ e. false≢true (sym ne ∙ eq-eqb s r e)))
change_other f (MapTask s) (ReduceTask r) v ne = refl
change_other f (ReduceTask s) (MapTask r) v ne = refl
change_other f (ReduceTask s) (ReduceTask r) v ne = ap or_none (get-update_other f s r v.parts (λ e. false≢true (sym ne ∙ eq-eqb s r e)))

some_live : (xs : List Count) (i : ℕ) → 1 ≤ (or_none (slice_get xs i)).live → i < length xs
some_live [] i h = absurd (omega arith)
some_live (x ∷ xs) zero h = omega arith
some_live (x ∷ xs) (suc i) h = omega (arith, some_live xs i h)

below_live : (t : Task) (v : CountsView) → 1 ≤ (count_of v t).live → IsBelow (length v.maps) (length v.parts) t
below_live (MapTask s) v h = some_live v.maps s h
below_live (ReduceTask p) v h = some_live v.parts p h

pub same_task : (t u : Task) → task_eq t u ≡ true → t ≡ u
same_task (MapTask s) (MapTask t) e = ap MapTask (eqb-true s t e)
same_task (ReduceTask p) (ReduceTask q) e = ap ReduceTask (eqb-true p q e)
same_task (MapTask s) (ReduceTask q) e = absurd (cc e)
same_task (ReduceTask p) (MapTask t) e = absurd (cc e)

pub task_self : (t : Task) → task_eq t t ≡ true
task_self (MapTask s) = eq-eqb s s refl
task_self (ReduceTask p) = eq-eqb p p refl

-- ---- counts of attempts

pub count-update : (p : Attempt → Bool) (f : Attempt → Attempt) (i : ℕ) (xs : List Attempt) (x : Attempt) → slice_get xs i ≡ Some x → count_by p (update_at f i xs) + cond (p x) 1 0 ≡ count_by p xs + cond (p (f x)) 1 0
count-update p f i xs x e = sum-update (λ a. cond (p a) 1 0) f i xs x e

pub count_same : (p : Attempt → Bool) (f : Attempt → Attempt) → ((x : Attempt) → p (f x) ≡ p x) → (i : ℕ) (xs : List Attempt) → count_by p (update_at f i xs) ≡ count_by p xs
count_same p f same i [] = refl
count_same p f same zero (x ∷ xs) = let here : ◌≡◌ {A = ℕ} (cond (p (f x)) 1 0) (cond (p x) 1 0) = ap (λ b. cond b 1 0) (same x) in omega (arith, here, sum_by-cons (λ a. cond (p a) 1 0) x xs, sum_by-cons (λ a. cond (p a) 1 0) (f x) xs)
count_same p f same (suc i) (x ∷ xs) = omega (arith, sum_by-cons (λ a. cond (p a) 1 0) x xs, sum_by-cons (λ a. cond (p a) 1 0) x (update_at f i xs), count_same p f same i xs)

pub one_there : (p : Attempt → Bool) (i : ℕ) (xs : List Attempt) (x : Attempt) → slice_get xs i ≡ Some x → p x ≡ true → 1 ≤ count_by p xs
one_there p i [] x e h = absurd (cc e)
one_there p zero (y ∷ xs) x e h =
    let same : y ≡ x = cc e in
    let one : ◌≡◌ {A = ℕ} (cond (p y) 1 0) 1 = ap (λ b. cond b 1 0) (ap p same ∙ h) in
    omega (arith, one, sum_by-cons (λ a. cond (p a) 1 0) y xs)
one_there p (suc i) (y ∷ xs) x e h = omega (arith, sum_by-cons (λ a. cond (p a) 1 0) y xs, one_there p i xs x e h)

pub none_at : (p : Attempt → Bool) (xs : List Attempt) (i : ℕ) (x : Attempt) → list_any p xs ≡ false → slice_get xs i ≡ Some x → p x ≡ false
none_at p [] i x n e = absurd (cc e)
none_at p (y ∷ xs) zero x n e = let same : y ≡ x = cc e in ap p (sym same) ∙ (or_parts (p y) (list_any p xs) n).0
none_at p (y ∷ xs) (suc i) x n e = none_at p xs i x ((or_parts (p y) (list_any p xs) n).1) e

pub none_of_places : (p : Attempt → Bool) (xs : List Attempt) → ((i : ℕ) (x : Attempt) → slice_get xs i ≡ Some x → p x ≡ false) → list_any p xs ≡ false
none_of_places p [] f = refl
none_of_places p (x ∷ xs) f = rw (f 0 x refl) (none_of_places p xs (λ i y e. f (suc i) y e))

get-push_new : (xs : List Attempt) (y : Attempt) → slice_get (xs ++ y ∷ []) (length xs) ≡ Some y
get-push_new [] y = refl
get-push_new (x ∷ xs) y = get-push_new xs y

get-push_from : (xs : List Attempt) (y x : Attempt) (i : ℕ) → slice_get (xs ++ y ∷ []) i ≡ Some x → (slice_get xs i ≡ Some x) ⊎ ((i ≡ length xs) × (y ≡ x))
get-push_from [] y x zero e = inr (refl, cc e)
get-push_from [] y x (suc i) e = absurd (cc e)
get-push_from (z ∷ xs) y x zero e = inl e
get-push_from (z ∷ xs) y x (suc i) e = elim (get-push_from xs y x i e) [ inl a ↦ inl a | inr b ↦ inr (ap suc b.0, b.1) ]

slot : (ws : List (Option ℕ)) (w : ℕ) → w < length ws → (o : Option ℕ) × (slice_get ws w ≡ Some o)
slot [] w h = absurd (omega arith)
slot (x ∷ xs) zero h = (x, refl)
slot (x ∷ xs) (suc w) h = slot xs w (omega arith)

-- ---- what a lost worker leaves

stays : (w : ℕ) (x : Attempt) → ((x.live ≡ true) → (x.worker ≡ w) → ⊥) → left_by w x ≡ x
stays w x none = ap (λ (b : Bool). let y : Attempt = record x { live = b } in y) (by x.live refl (x.worker == w) refl)
  where
    by : (l : Bool) → x.live ≡ l → (e : Bool) → (x.worker == w) ≡ e → (l && not e) ≡ l
    by false is e d = refl
    by true is false d = refl
    by true is true d = absurd (none is (eqb-true x.worker w d))

goes : (w : ℕ) (x : Attempt) → x.worker ≡ w → left_by w x ≡ record x { live = false }
goes w x e = ap (λ (b : Bool). let y : Attempt = record x { live = b } in y) (by x.live (x.worker == w) (eq-eqb x.worker w e))
  where
    by : (l e : Bool) → e ≡ true → (l && not e) ≡ false
    by false e d = refl
    by true true d = refl
    by true false d = absurd (false≢true d)

left_none : (w : ℕ) (xs : List Attempt) → ((b : ℕ) (y : Attempt) → slice_get xs b ≡ Some y → y.live ≡ true → y.worker ≡ w → ⊥) → map (left_by w) xs ≡ xs
left_none w [] none = refl
left_none w (x ∷ xs) none = λ j. stays w x (none 0 x refl) j ∷ left_none w xs (λ b. none (suc b)) j

left_one : (w a : ℕ) (xs : List Attempt) (x : Attempt) → slice_get xs a ≡ Some x → x.live ≡ true → x.worker ≡ w → ((b : ℕ) (y : Attempt) → slice_get xs b ≡ Some y → y.live ≡ true → y.worker ≡ w → b ≡ a) → map (left_by w) xs ≡ update_at (λ t. record t { live = false }) a xs
left_one w a [] x at l e one = absurd (cc at)
left_one w zero (y ∷ xs) x at l e one =
    let same : y ≡ x = cc at in
    let worker : y.worker ≡ w = ap (λ (q : Attempt). q.worker) same ∙ e in
    λ j. goes w y worker j ∷ left_none w xs (λ b z is live mine. let no : suc b ≡ 0 = one (suc b) z is live mine in absurd (omega arith)) j
left_one w (suc a) (y ∷ xs) x at l e one =
    λ j. stays w y (λ live mine. let no : 0 ≡ suc a = one 0 y refl live mine in absurd (omega arith)) j ∷ left_one w a xs x at l e (λ b z is live mine. let s : suc b ≡ suc a = one (suc b) z is live mine in omega arith) j

-- ---- the attempts' index

module _ (xs : List Attempt) (v : CountsView) (ws : List (Option ℕ)) (ix : IsIndexed xs v ws) where
  -- what is fetched isn't seen
  pub indexed_fetch : (g : List (Option ℕ) → List (Option ℕ)) (i : ℕ) → IsIndexed (update_at (λ t. record t { fetched = g t.fetched }) i xs) v ws
  indexed_fetch g i = record {
    counts = λ t. ix.counts t ∙ (λ j. record { issued = sym (count_same (λ a. task_eq a.task t) f (λ x. refl) i xs) j; live = sym (count_same (λ a. task_eq a.task t && a.live) f (λ x. refl) i xs) j });
    there = λ w a e.
        let r = ix.there w a e in
        elim (cases_eq i a) [
          | inl same ↦ (f r.0, ap (slice_get (update_at f i xs)) (sym same) ∙ get-update_here f i xs r.0 (ap (slice_get xs) same ∙ r.1), r.2, r.3)
          | inr other ↦ (r.0, get-update_other f i a xs other ∙ r.1, r.2, r.3)
        ];
    all = λ a y e l.
        let r = get-update_from f i a xs y e in
        elim r.2 [
          | inl same ↦ ix.all a y (r.1 ∙ ap Some (sym same)) l
          | inr now ↦ (
              let live : r.0.live ≡ true = sym (ap (λ (w : Attempt). w.live) now.1) ∙ l in
              let worker : r.0.worker ≡ y.worker = sym (ap (λ (w : Attempt). w.worker) now.1) in
              subst (λ (w : ℕ). slice_get ws w ≡ Some (Some a)) worker (ix.all a r.0 r.1 live)
              )
        ];
  }
    where
      f : Attempt → Attempt
      f t = record t { fetched = g t.fetched }

  -- a live attempt ends
  module _ (a : ℕ) (x : Attempt) (at : slice_get xs a ≡ Some x) (live : x.live ≡ true) where
    abbrev over : Attempt → Attempt
    over t = record t { live = false }

    one_live : (t : Task) → task_eq x.task t ≡ true → (task_eq x.task t && x.live) ≡ true
    one_live t e = rw e live

    pub count_live : 1 ≤ (count_of v x.task).live
    count_live = let is : ◌≡◌ {A = ℕ} (count_of v x.task).live (counted xs x.task).live = ap (λ (c : Count). c.live) (ix.counts x.task) in omega (arith, is, one_there (λ b. task_eq b.task x.task && b.live) a xs x at (one_live x.task (task_self x.task)))

    ended_count : (t : Task) (b : Bool) → task_eq x.task t ≡ b → count_of (change_count ended x.task v) t ≡ counted (update_at over a xs) t
    ended_count t true e =
        let same : x.task ≡ t = same_task x.task t e in
        let here : count_of (change_count ended x.task v) t ≡ ended (count_of v t) = subst (λ (u : Task). count_of (change_count ended x.task v) u ≡ ended (count_of v u)) same (change_here ended x.task v (below_live x.task v count_live)) in
        let p = λ (b : Attempt). task_eq b.task t && b.live in
        let was : ◌≡◌ {A = ℕ} (cond (p x) 1 0) 1 = ap (λ b. cond b 1 0) (one_live t e) in
        let is : ◌≡◌ {A = ℕ} (cond (p (over x)) 1 0) 0 = ap (λ b. cond (b && false) 1 0) e in
        let less : ◌≡◌ {A = ℕ} (count_by p xs - 1) (count_by p (update_at over a xs)) = omega (arith, was, is, count-update p over a xs x at) in
        let all : count_by (λ b. task_eq b.task t) xs ≡ count_by (λ b. task_eq b.task t) (update_at over a xs) = sym (count_same (λ b. task_eq b.task t) over (λ b. refl) a xs) in
        here ∙ ap ended (ix.counts t) ∙ (λ j. record { issued = all j; live = less j })
    ended_count t false e =
        let p = λ (b : Attempt). task_eq b.task t && b.live in
        let was : ◌≡◌ {A = ℕ} (cond (p x) 1 0) 0 = ap (λ b. cond (b && x.live) 1 0) e in
        let is : ◌≡◌ {A = ℕ} (cond (p (over x)) 1 0) 0 = ap (λ b. cond (b && false) 1 0) e in
        let kept : ◌≡◌ {A = ℕ} (count_by p xs) (count_by p (update_at over a xs)) = omega (arith, was, is, count-update p over a xs x at) in
        let all : count_by (λ b. task_eq b.task t) xs ≡ count_by (λ b. task_eq b.task t) (update_at over a xs) = sym (count_same (λ b. task_eq b.task t) over (λ b. refl) a xs) in
        change_other ended x.task t v e ∙ ix.counts t ∙ (λ j. record { issued = all j; live = kept j })

    gone_there : (w b : ℕ) → slice_get (update_at (λ y. None) x.worker ws) w ≡ Some (Some b) → IsCurrent (update_at over a xs) w b
    gone_there w b e =
        elim (cases_eq x.worker w) [
          | inl same ↦ absurd (cc (get-update_here (λ y. None) x.worker ws (Some a) (ix.all a x at live), ap (slice_get (update_at (λ y. None) x.worker ws)) same, e))
          | inr other ↦ (
              let r = ix.there w b (sym (get-update_other (λ y. None) x.worker w ws other) ∙ e) in
              let apart : a ≡ b → ⊥ = λ d. let one : Some x ≡ Some r.0 = sym at ∙ (ap (slice_get xs) d ∙ r.1) in let who : x ≡ r.0 = cc one in other (ap (λ (q : Attempt). q.worker) who ∙ r.3) in
              (r.0, get-update_other over a b xs apart ∙ r.1, r.2, r.3)
              )
        ]

    gone_all : (b : ℕ) (y : Attempt) → slice_get (update_at over a xs) b ≡ Some y → y.live ≡ true → slice_get (update_at (λ y. None) x.worker ws) y.worker ≡ Some (Some b)
    gone_all b y e l =
        elim (cases_eq a b) [
          | inl same ↦ (
              let now : Some (over x) ≡ Some y = sym (get-update_here over a xs x at) ∙ (ap (slice_get (update_at over a xs)) same ∙ e) in
              let is : over x ≡ y = cc now in
              absurd (false≢true (ap (λ (q : Attempt). q.live) is ∙ l))
              )
          | inr other ↦ (
              let mine = ix.all b y (sym (get-update_other over a b xs other) ∙ e) l in
              let apart : x.worker ≡ y.worker → ⊥ = λ d. let one : Some (Some a) ≡ Some (Some b) = sym (ix.all a x at live) ∙ (ap (slice_get ws) d ∙ mine) in other (cc one) in
              get-update_other (λ z. None) x.worker y.worker ws apart ∙ mine
              )
        ]

    pub indexed_end : IsIndexed (update_at over a xs) (change_count ended x.task v) (update_at (λ y. None) x.worker ws)
    indexed_end = record { counts = λ t. ended_count t (task_eq x.task t) refl; there = gone_there; all = gone_all }

  -- one attempt more
  module _ (x : Attempt) (live : x.live ≡ true) (free : list_any (λ (b : Attempt). (b.worker == x.worker) && b.live) xs ≡ false) (worker : x.worker < length ws) (below : IsBelow (length v.maps) (length v.parts) x.task) where
    begun_count : (t : Task) (b : Bool) → task_eq x.task t ≡ b → count_of (change_count begun x.task v) t ≡ counted (xs ++ x ∷ []) t
    begun_count t true e =
        let same : x.task ≡ t = same_task x.task t e in
        let here : count_of (change_count begun x.task v) t ≡ begun (count_of v t) = subst (λ (u : Task). count_of (change_count begun x.task v) u ≡ begun (count_of v u)) same (change_here begun x.task v below) in
        let one : ◌≡◌ {A = ℕ} (cond (task_eq x.task t) 1 0) 1 = ap (λ b. cond b 1 0) e in
        let here_one : (task_eq x.task t && x.live) ≡ true = rw e live in
        let two : ◌≡◌ {A = ℕ} (cond (task_eq x.task t && x.live) 1 0) 1 = ap (λ b. cond b 1 0) here_one in
        let all : ◌≡◌ {A = ℕ} (count_by (λ b. task_eq b.task t) xs + 1) (count_by (λ b. task_eq b.task t) (xs ++ x ∷ [])) = omega (arith, one, sum_by_push (λ (b : Attempt). cond (task_eq b.task t) 1 0) xs x) in
        let more : ◌≡◌ {A = ℕ} (count_by (λ b. task_eq b.task t && b.live) xs + 1) (count_by (λ b. task_eq b.task t && b.live) (xs ++ x ∷ [])) = omega (arith, two, sum_by_push (λ (b : Attempt). cond (task_eq b.task t && b.live) 1 0) xs x) in
        here ∙ ap begun (ix.counts t) ∙ (λ j. record { issued = all j; live = more j })
    begun_count t false e =
        let one : ◌≡◌ {A = ℕ} (cond (task_eq x.task t) 1 0) 0 = ap (λ b. cond b 1 0) e in
        let two : ◌≡◌ {A = ℕ} (cond (task_eq x.task t && x.live) 1 0) 0 = ap (λ b. cond (b && x.live) 1 0) e in
        let all : ◌≡◌ {A = ℕ} (count_by (λ b. task_eq b.task t) xs) (count_by (λ b. task_eq b.task t) (xs ++ x ∷ [])) = omega (arith, one, sum_by_push (λ (b : Attempt). cond (task_eq b.task t) 1 0) xs x) in
        let more : ◌≡◌ {A = ℕ} (count_by (λ b. task_eq b.task t && b.live) xs) (count_by (λ b. task_eq b.task t && b.live) (xs ++ x ∷ [])) = omega (arith, two, sum_by_push (λ (b : Attempt). cond (task_eq b.task t && b.live) 1 0) xs x) in
        change_other begun x.task t v e ∙ ix.counts t ∙ (λ j. record { issued = all j; live = more j })

    taken : slice_get (update_at (λ y. Some (length xs)) x.worker ws) x.worker ≡ Some (Some (length xs))
    taken = let s = slot ws x.worker worker in get-update_here (λ y. Some (length xs)) x.worker ws s.0 s.1

    come_there : (w b : ℕ) → slice_get (update_at (λ y. Some (length xs)) x.worker ws) w ≡ Some (Some b) → IsCurrent (xs ++ x ∷ []) w b
    come_there w b e =
        elim (cases_eq x.worker w) [
          | inl same ↦ (
              let one : Some (Some (length xs)) ≡ Some (Some b) = sym taken ∙ (ap (slice_get (update_at (λ y. Some (length xs)) x.worker ws)) same ∙ e) in
              let is : length xs ≡ b = cc one in
              (x, ap (slice_get (xs ++ x ∷ [])) (sym is) ∙ get-push_new xs x, live, same)
              )
          | inr other ↦ (let r = ix.there w b (sym (get-update_other (λ y. Some (length xs)) x.worker w ws other) ∙ e) in (r.0, get-push_old xs x r.0 b r.1, r.2, r.3))
        ]

    come_all : (b : ℕ) (y : Attempt) → slice_get (xs ++ x ∷ []) b ≡ Some y → y.live ≡ true → slice_get (update_at (λ y. Some (length xs)) x.worker ws) y.worker ≡ Some (Some b)
    come_all b y e l =
        elim (get-push_from xs x y b e) [
          | inl old ↦ (
              let apart : x.worker ≡ y.worker → ⊥ = λ d.
              let not_here : ((y.worker == x.worker) && y.live) ≡ false = none_at (λ (b : Attempt). (b.worker == x.worker) && b.live) xs b y free old in
              let here : ((y.worker == x.worker) && y.live) ≡ true = rw (eq-eqb y.worker x.worker (sym d)) l in
              false≢true (sym not_here ∙ here) in
              get-update_other (λ z. Some (length xs)) x.worker y.worker ws apart ∙ ix.all b y old l
              )
          | inr new ↦ subst (λ (n : ℕ). slice_get (update_at (λ z. Some (length xs)) x.worker ws) y.worker ≡ Some (Some n)) (sym new.0) (subst (λ (q : Attempt). slice_get (update_at (λ z. Some (length xs)) x.worker ws) q.worker ≡ Some (Some (length xs))) new.1 taken)
        ]

    pub indexed_push : IsIndexed (xs ++ x ∷ []) (change_count begun x.task v) (update_at (λ y. Some (length xs)) x.worker ws)
    indexed_push = record { counts = λ t. begun_count t (task_eq x.task t) refl; there = come_there; all = come_all }

  -- a worker with no live attempt
  pub free_worker : (w : ℕ) → ((a : ℕ) → slice_get ws w ≡ Some (Some a) → ⊥) → list_any (λ (b : Attempt). (b.worker == w) && b.live) xs ≡ false
  free_worker w none = none_of_places _ xs (λ a x at. by a x at (x.worker == w) refl x.live refl)
    where
      by : (a : ℕ) (x : Attempt) → slice_get xs a ≡ Some x → (e : Bool) → (x.worker == w) ≡ e → (l : Bool) → x.live ≡ l → (e && l) ≡ false
      by a x at false e l is = refl
      by a x at true e false is = refl
      by a x at true e true is = absurd (none a (ap (slice_get ws) (sym (eqb-true x.worker w e)) ∙ ix.all a x at is))

  -- ---- the loss of a worker

  pub left_free : (w : ℕ) → ((a : ℕ) → slice_get ws w ≡ Some (Some a) → ⊥) → map (left_by w) xs ≡ xs
  left_free w none = left_none w xs (λ b y at l e. none b (ap (slice_get ws) (sym e) ∙ ix.all b y at l))

  pub left_busy : (w a : ℕ) → IsCurrent xs w a → map (left_by w) xs ≡ update_at (λ t. record t { live = false }) a xs
  left_busy w a r = left_one w a xs r.0 r.1 r.2 r.3 (λ b y at l e. same b (sym (ap (slice_get ws) (sym e) ∙ ix.all b y at l) ∙ (ap (slice_get ws) (sym r.3) ∙ ix.all a r.0 r.1 r.2)))
    where
      same : (b : ℕ) → Some (Some b) ≡ Some (Some a) → b ≡ a
      same b e = cc e

pub indexed_new : (m p w : ℕ) → IsIndexed [] (record { maps = replicate m no_count; parts = replicate p no_count }) (replicate w None)
indexed_new m p w = record {
  counts = none_counted;
  there = λ v a e. absurd (nobody w v a e);
  all = λ a x e l. absurd (cc e);
}
  where
    nothing : (n i : ℕ) → or_none (slice_get (replicate n no_count) i) ≡ no_count
    nothing zero i = refl
    nothing (suc n) zero = refl
    nothing (suc n) (suc i) = nothing n i

    none_counted : (t : Task) → count_of (record { maps = replicate m no_count; parts = replicate p no_count }) t ≡ counted [] t
    none_counted (MapTask s) = nothing m s
    none_counted (ReduceTask q) = nothing p q

    nobody : (n v a : ℕ) → (let ws : List (Option ℕ) = replicate n None in slice_get ws v ≡ Some (Some a)) → ⊥
    nobody zero v a e = cc e
    nobody (suc n) zero a e = cc e
    nobody (suc n) (suc v) a e = nobody n v a e

-- ---- as the calls leave the index

worker_below : (ws : List (Option ℕ)) (w : ℕ) (o : Option ℕ) → slice_get ws w ≡ Some o → w < length ws
worker_below [] w o e = absurd (cc e)
worker_below (x ∷ ws) zero o e = omega arith
worker_below (x ∷ ws) (suc w) o e = omega (arith, worker_below ws w o e)

pub all_below : (xs : List Attempt) (v : CountsView) (ws : List (Option ℕ)) → IsIndexed xs v ws → (a : ℕ) (x : Attempt) → slice_get xs a ≡ Some x → x.live ≡ true → x.worker < length ws
all_below xs v ws ix a x at live = worker_below ws x.worker (Some a) (ix.all a x at live)

entry_is : (o : Option (Option ℕ)) (a : ℕ) → entry o ≡ Some a → o ≡ Some (Some a)
entry_is None a e = absurd (cc e)
entry_is (Some o) a e = ap Some e

entry_none : (o : Option (Option ℕ)) (a : ℕ) → entry o ≡ None → o ≡ Some (Some a) → ⊥
entry_none None a e d = absurd (cc d)
entry_none (Some None) a e d = absurd (cc d)
entry_none (Some (Some b)) a e d = absurd (cc e)

pub current_is : (xs : List Attempt) (v : CountsView) (ws : List (Option ℕ)) → IsIndexed xs v ws → (w : ℕ) (r : Option ℕ) → r ≡ entry (slice_get ws w) → MatchOption r (list_any (λ (b : Attempt). (b.worker == w) && b.live) xs ≡ false) (λ a. IsCurrent xs w a)
current_is xs v ws ix w None e = free_worker xs v ws ix w (λ a d. entry_none (slice_get ws w) a (sym e) d)
current_is xs v ws ix w (Some a) e = ix.there w a (entry_is (slice_get ws w) a (sym e))

pub left_is : (xs : List Attempt) (v : CountsView) (ws : List (Option ℕ)) → IsIndexed xs v ws → (w : ℕ) (r : Option ℕ) → r ≡ entry (slice_get ws w) → MatchOption r (map (left_by w) xs ≡ xs) (λ a. map (left_by w) xs ≡ update_at (λ t. record t { live = false }) a xs)
left_is xs v ws ix w None e = left_free xs v ws ix w (λ a d. entry_none (slice_get ws w) a (sym e) d)
left_is xs v ws ix w (Some a) e = left_busy xs v ws ix w a (ix.there w a (entry_is (slice_get ws w) a (sym e)))

pub indexed_as : (xs ys : List Attempt) (v u : CountsView) (ws vs : List (Option ℕ)) → ys ≡ xs → u ≡ v → vs ≡ ws → IsIndexed xs v ws → IsIndexed ys u vs
indexed_as xs ys v u ws vs e d f ix = subst (λ (zs : List Attempt). IsIndexed zs u vs) (sym e) (subst (λ (w : CountsView). IsIndexed xs w vs) (sym d) (subst (λ (w : List (Option ℕ)). IsIndexed xs v w) (sym f) ix))

same_length : (f : Count → Count) (t : Task) (v : CountsView) → (length (change_count f t v).maps ≡ length v.maps) × (length (change_count f t v).parts ≡ length v.parts)
same_length f (MapTask s) v = (length-update f s v.maps, refl)
same_length f (ReduceTask p) v = (refl, length-update f p v.parts)

pub view_as : (f : Count → Count) (t : Task) (w : ℕ) (o : Option ℕ) (xs ys : List Attempt) (v u : CountsView) (ws vs : List (Option ℕ)) → ys ≡ xs → u ≡ change_count f t v → vs ≡ update_at (λ y. o) w ws
    → (let new : Issued = record { items = ys; maps = length u.maps; parts = length u.parts; workers = length vs } in new) ≡ record { items = xs; maps = length v.maps; parts = length v.parts; workers = length ws }
view_as f t w o xs ys v u ws vs e d g =
    let maps : length u.maps ≡ length v.maps = ap (λ (k : CountsView). length k.maps) d ∙ (same_length f t v).0 in
    let parts : length u.parts ≡ length v.parts = ap (λ (k : CountsView). length k.parts) d ∙ (same_length f t v).1 in
    let workers : length vs ≡ length ws = ap length g ∙ length-update (λ y. o) w ws in
    λ i. record { items = e i; maps = maps i; parts = parts i; workers = workers i }

-- the list after a write into its slice
pub written : (n : ℕ) (now old : List (Option ℕ)) (w : ℕ) (o : Option ℕ) → n ≡ length old → now ≡ update_at (λ y. o) w old → take n (now ++ drop (length now) old) ≡ update_at (λ y. o) w old
written n now old w o len e =
    let same : n ≡ length now = len ∙ sym (ap length e ∙ length-update (λ y. o) w old) in
    subst (λ (k : ℕ). take k (now ++ drop (length now) old) ≡ now) (sym same) (take-append_seam now (drop (length now) old)) ∙ e

-- the attempt that stands at the place is the live one
pub at_index : (xs : List Attempt) (a : ℕ) (d : Attempt) → ((x : Attempt) × (slice_get xs a ≡ Some x) × (x.live ≡ true)) → d ≡ slice_index_or xs a d → (slice_get xs a ≡ Some d) × (d.live ≡ true) × (a < length xs)
at_index xs a d r is =
    let here = get_at xs a r.0 d r.1 in
    let same : r.0 ≡ d = sym here.1 ∙ sym is in
    (r.1 ∙ ap Some same, sym (ap (λ (q : Attempt). q.live) same) ∙ r.2, here.0)

pub below_known : (xs : List Attempt) (v : CountsView) (ws : List (Option ℕ)) (ix : IsIndexed xs v ws) (a : ℕ) (d : Attempt) → (slice_get xs a ≡ Some d) × (d.live ≡ true) × (a < length xs) → (x : Attempt) → slice_get xs a ≡ Some x → IsBelow (length v.maps) (length v.parts) x.task
below_known xs v ws ix a d known x at =
    let one : Some d ≡ Some x = sym known.0 ∙ at in
    let same : d ≡ x = cc one in
    subst (λ (q : Attempt). IsBelow (length v.maps) (length v.parts) q.task) same (below_live d.task v (count_live xs v ws ix a d known.0 known.1))

module _ (xs : List Attempt) (v : CountsView) (ws : List (Option ℕ)) (ix : IsIndexed xs v ws) (a : ℕ) (d : Attempt) (known : (slice_get xs a ≡ Some d) × (d.live ≡ true) × (a < length xs)) (task : Task) (of_task : task ≡ d.task) where
  pub ended_live : 1 ≤ (count_of v task).live
  ended_live = subst (λ (t : Task). 1 ≤ (count_of v t).live) (sym of_task) (count_live xs v ws ix a d known.0 known.1)

  module _ (now : Attempt) (over_now : now ≡ record d { live = false }) where
    pub ended_items : slice_set xs a now ≡ update_at (λ t. record t { live = false }) a xs
    ended_items = update_is_set (λ (t : Attempt). record t { live = false }) xs a d now known.2 (over_now ∙ ap (λ (q : Attempt). let y : Attempt = record q { live = false } in y) (sym (get_at xs a d d known.0).1))

    pub ended_index : (worker : ℕ) → worker ≡ d.worker → (u : CountsView) → u ≡ change_count ended task v → (vs : List (Option ℕ)) → vs ≡ update_at (λ y. None) worker ws → IsIndexed (slice_set xs a now) u vs
    ended_index worker w u e vs f =
        indexed_as (update_at (λ t. record t { live = false }) a xs) (slice_set xs a now) (change_count ended d.task v) u (update_at (λ y. None) d.worker ws) vs
        ended_items (e ∙ ap (λ (t : Task). change_count ended t v) of_task) (f ∙ ap (λ (n : ℕ). update_at (λ y. None) n ws) w)
        (indexed_end xs v ws ix a d known.0 known.1)
