-- What the left-out sets and the issued attempts keep, seen apart from all else.
use Rattle.std.proofs.Common.{◌≡◌, ℕ, suc, ◌<◌, ◌≤◌, Some, List, [], ◌∷◌, ◌++◌, length, slice_get, refl, ap, sym, ◌∙◌, inl, inr, ◌⊎◌, arith, Bool, true, false, cond}
use Rattle.std.proofs.lemmas.Option.{some_pair_parts}
use Rattle.std.proofs.lemmas.Bool.{false≢true, true≢false}
use Rattle.std.specs.List.{sum_by, count_by}
use Rattle.std.specs.Ordering.{nat_cmp}
use Rattle.std.specs.declared.cmp.Ordering.{Ordering}
use Rattle.std.specs.declared.cmp.Ordering.TheVariants.{Less, Equal, Greater}
use Rattle.mr_core.specs.Master.{by_order}
use Rattle.std.proofs.lemmas.Bool.{cases_eq, eqb-true}
use Rattle.std.proofs.lemmas.List.Sums.{sum_by_push}
use Rattle.mr_core.specs.declared.event.Task.{Task}
use Rattle.mr_core.specs.Master.{task_eq, update_at, with_number}
use Rattle.mr_core.specs.declared.event.Task.TheVariants.{Map as MapTask, Reduce as ReduceTask}
use Rattle.mr_core.proofs.Places.{get-update_here, get-update_other, sum-update, get-push_old, get-push_cases}

pub task_eq-is : (t u : Task) → task_eq t u ≡ true → t ≡ u
task_eq-is (MapTask s) (MapTask t) e = ap MapTask (eqb-true s t e)
task_eq-is (ReduceTask p) (ReduceTask q) e = ap ReduceTask (eqb-true p q e)
task_eq-is (MapTask s) (ReduceTask q) e = absurd (cc e)
task_eq-is (ReduceTask p) (MapTask t) e = absurd (cc e)

-- attempts as issued: the task, and what it leaves out
abbrev pub Jobs : Type 0
Jobs = List (Task × List ℕ)

-- the splits' sets, and whether they are fixed
abbrev pub Sets : Type 0
Sets = List (List ℕ × Bool)

abbrev pub size : List ℕ × Bool → ℕ
size p = length (p.0)

abbrev pub is_of : Task → Task × List ℕ → Bool
is_of t j = task_eq (j.0) t

pub record Kept (skips attempts : ℕ) (jobs : Jobs) (sets : Sets) : Type 0 where
  pub room : sum_by size sets ≤ skips
  pub few : (t : Task) → count_by (is_of t) jobs ≤ attempts
  pub grows : (a s : ℕ) (k l : List ℕ) → slice_get jobs a ≡ Some (MapTask s, k) → slice_get sets s ≡ Some (l, false) → length k ≤ length l

-- what stands at one place of the sets is one
one_place : (sets : Sets) (s t : ℕ) (k l : List ℕ) (f g : Bool) → s ≡ t → slice_get sets s ≡ Some (k, f) → slice_get sets t ≡ Some (l, g) → (k ≡ l) × (f ≡ g)
one_place sets s t k l f g same e d = some_pair_parts k l f g (sym e ∙ (ap (slice_get sets) same ∙ d))

-- the split of this attempt is fixed to what it leaves out
pub record IsFixed (jobs : Jobs) (sets : Sets) (a : ℕ) : Type 0 where
  pub split : ℕ
  pub skips : List ℕ
  pub job : slice_get jobs a ≡ Some (MapTask split, skips)
  pub fixed : slice_get sets split ≡ Some (skips, true)

pub record Goes (skips attempts : ℕ) (jobs : Jobs) (sets : Sets) (jobs' : Jobs) (sets' : Sets) : Type 0 where
  pub kept : Kept skips attempts jobs' sets'
  pub stays : (a : ℕ) → IsFixed jobs sets a → IsFixed jobs' sets' a

module _ (n m : ℕ) (jobs : Jobs) (sets : Sets) (kept : Kept n m jobs sets) where
  pub stays_same : Goes n m jobs sets jobs sets
  stays_same = record { kept = kept; stays = λ a f. f }

  -- one more attempt of a task that has fewer than it may have
  pub pushes : (t : Task) (k : List ℕ) → count_by (is_of t) jobs < m → ((s : ℕ) → t ≡ MapTask s → (f : Bool) × (slice_get sets s ≡ Some (k, f))) → Goes n m jobs sets (jobs ++ (t, k) ∷ []) sets
  pushes t k less as_set = record {
    kept = record {
      room = kept.room;
      few = λ u. by u (task_eq t u) refl;
      grows = λ a s j l e d. elim (get-push_cases jobs (t, k) (MapTask s, j) a e) [
        | inl old ↦ kept.grows a s j l old d
        | inr new ↦ (
            let task : t ≡ MapTask s = ap (λ (w : Task × List ℕ). w.0) new in
            let same : k ≡ j = ap (λ (w : Task × List ℕ). w.1) new in
            let at = as_set s task in
            let now = one_place sets s s k l (at.0) false refl (at.1) d in
            omega (arith, ap length same, ap length (now.0))
            )
      ];
    };
    stays = λ a f. record { split = f.split; skips = f.skips; job = get-push_old jobs (t, k) _ a f.job; fixed = f.fixed };
  }
    where
      by : (u : Task) (b : Bool) → task_eq t u ≡ b → count_by (is_of u) (jobs ++ (t, k) ∷ []) ≤ m
      by u true e =
          let same : t ≡ u = task_eq-is t u e in
          let one : ◌≡◌ {A = ℕ} (cond (task_eq t u) 1 0) 1 = rw e refl in
          omega (arith, sum_by_push (λ j. cond (is_of u j) 1 0) jobs (t, k), one, less, ap (λ v. count_by (is_of v) jobs) same)
      by u false e =
          let none : ◌≡◌ {A = ℕ} (cond (task_eq t u) 1 0) 0 = rw e refl in
          omega (arith, sum_by_push (λ j. cond (is_of u j) 1 0) jobs (t, k), none, kept.few u)

  -- a split's set is fixed to that of an attempt
  pub fixes : (a s : ℕ) (k l : List ℕ) (f : Bool) → slice_get jobs a ≡ Some (MapTask s, k) → slice_get sets s ≡ Some (l, f) → (f ≡ false) ⊎ (l ≡ k)
      → Goes n m jobs sets jobs (update_at (λ p. (k, true)) s sets) × IsFixed jobs (update_at (λ p. (k, true)) s sets) a
  fixes a s k l f job at fits = (
    record {
      kept = record {
        room = omega (arith, sum-update size (λ p. (k, true)) s sets (l, f) at, smaller fits, kept.room);
        few = kept.few;
        grows = λ b t j i e d. elim (cases_eq s t) [
          | inl same ↦ absurd (true≢false ((one_place (update_at (λ p. (k, true)) s sets) s t k i true false same (get-update_here (λ p. (k, true)) s sets (l, f) at) d).1))
          | inr other ↦ kept.grows b t j i e (sym (get-update_other (λ p. (k, true)) s t sets other) ∙ d)
        ];
      };
      stays = λ b g. elim (cases_eq s g.split) [
        | inl same ↦ (let was : slice_get sets s ≡ Some (g.skips, true) = ap (slice_get sets) same ∙ g.fixed in let now : k ≡ g.skips = was_set g.skips was fits in record { split = s; skips = k; job = cc (g.job, same, now); fixed = get-update_here (λ p. (k, true)) s sets (l, f) at })
        | inr other ↦ record { split = g.split; skips = g.skips; job = g.job; fixed = get-update_other (λ p. (k, true)) s g.split sets other ∙ g.fixed }
      ];
    },
    record { split = s; skips = k; job = job; fixed = get-update_here (λ p. (k, true)) s sets (l, f) at },
  )
    where
      smaller : (f ≡ false) ⊎ (l ≡ k) → length k ≤ length l
      smaller (inl e) = kept.grows a s k l job (at ∙ ap (λ b. Some (l, b)) e)
      smaller (inr e) = omega (arith, ap length e)

      was_set : (j : List ℕ) → slice_get sets s ≡ Some (j, true) → (f ≡ false) ⊎ (l ≡ k) → k ≡ j
      was_set j was (inl e) = absurd (true≢false (sym ((one_place sets s s l j f true refl at was).1) ∙ e))
      was_set j was (inr e) = sym e ∙ (one_place sets s s l j f true refl at was).0

  -- one more record is left out of a split that isn't fixed
  pub widens : (s r : ℕ) (l : List ℕ) → slice_get sets s ≡ Some (l, false) → (length l ≤ length (with_number r l)) × (length (with_number r l) ≤ suc (length l)) → sum_by size sets < n
      → Goes n m jobs sets jobs (update_at (λ p. (with_number r (p.0), p.1)) s sets)
  widens s r l at long less = record {
    kept = record {
      room = omega (arith, sum-update size (λ p. (with_number r (p.0), p.1)) s sets (l, false) at, long.1);
      few = kept.few;
      grows = λ b t j i e d. elim (cases_eq s t) [
        | inl same ↦ (let now : with_number r l ≡ i = (one_place (update_at (λ p. (with_number r (p.0), p.1)) s sets) s t (with_number r l) i false false same (get-update_here (λ p. (with_number r (p.0), p.1)) s sets (l, false) at) d).0 in let before : length j ≤ length l = kept.grows b t j l e (ap (slice_get sets) (sym same) ∙ at) in omega (arith, long.0, ap length now))
        | inr other ↦ kept.grows b t j i e (sym (get-update_other (λ p. (with_number r (p.0), p.1)) s t sets other) ∙ d)
      ];
    };
    stays = λ b g. elim (cases_eq s g.split) [
      | inl same ↦ absurd (false≢true ((one_place sets s g.split l g.skips false true same at g.fixed).1))
      | inr other ↦ record { split = g.split; skips = g.skips; job = g.job; fixed = get-update_other (λ p. (with_number r (p.0), p.1)) s g.split sets other ∙ g.fixed }
    ];
  }

pub length-with_number : (r : ℕ) (xs : List ℕ) → (length xs ≤ length (with_number r xs)) × (length (with_number r xs) ≤ suc (length xs))
length-with_number r [] = (omega arith, omega arith)
length-with_number r (x ∷ xs) = by (nat_cmp r x) (length-with_number r xs)
  where
    by : (o : Ordering) → (length xs ≤ length (with_number r xs)) × (length (with_number r xs) ≤ suc (length xs)) → (suc (length xs) ≤ length (by_order o (r ∷ x ∷ xs) (x ∷ xs) (x ∷ with_number r xs))) × (length (by_order o (r ∷ x ∷ xs) (x ∷ xs) (x ∷ with_number r xs)) ≤ suc (suc (length xs)))
    by Less e = (omega arith, omega arith)
    by Equal e = (omega arith, omega arith)
    by Greater e = (omega (arith, e.0), omega (arith, e.1))
