-- The ends are tested at the one task that an event touched.
use Rattle.std.proofs.Common.{◌≡◌, ℕ, zero, suc, ◌<◌, ◌+◌, Option, Some, None, map, refl, ap, sym, ◌∙◌, subst, arith, Bool, true, false, is_some}
use Rattle.std.specs.List.{list_any, list_all, range_with_len}
use Rattle.std.specs.Option.{option_map_or}
use Rattle.std.proofs.lemmas.Bool.{lt-ltb, false≢true}
use Rattle.mr_core.specs.declared.event.Task.{Task}
use Rattle.mr_core.specs.declared.event.Shape.{Shape}
use Rattle.mr_core.specs.declared.event.End.{End}
use Rattle.mr_core.specs.declared.event.Task.TheVariants.{Map as MapTask, Reduce as ReduceTask}
use Rattle.mr_core.specs.Master.{State, tasks, is_task, is_stuck, end_of, first_end, settled}
use Rattle.mr_core.specs.Index.{IsTouched}
use Rattle.mr_core.proofs.TaskSearch.{none_of_all, one_of_all}

none_from : (p : Task → Bool) (f : ℕ → Task) (a n : ℕ) → ((i : ℕ) → i < n → p (f (a + i)) ≡ false) → list_any p (map f (range_with_len a n)) ≡ false
none_from p f a zero g = refl
none_from p f a (suc n) g =
    let here : a + 0 ≡ a = omega arith in
    let first : p (f a) ≡ false = subst (λ (k : ℕ). p (f k) ≡ false) here (g 0 (omega arith)) in
    rw first (none_from p f (a + 1) n (λ i h. let there : a + suc i ≡ (a + 1) + i = omega arith in subst (λ (k : ℕ). p (f k) ≡ false) there (g (suc i) (omega arith))))

pub none_of_tasks : (p : Task → Bool) (sh : Shape) → ((t : Task) → is_task sh t ≡ true → p t ≡ false) → list_any p (tasks sh) ≡ false
none_of_tasks p sh f =
    none_of_all p sh
    (none_from p MapTask 0 sh.maps (λ i h. let same : i ≡ 0 + i = omega arith in subst (λ (k : ℕ). p (MapTask k) ≡ false) same (f (MapTask i) (lt-ltb i sh.maps h))))
    (none_from p ReduceTask 0 sh.parts (λ i h. let same : i ≡ 0 + i = omega arith in subst (λ (k : ℕ). p (ReduceTask k) ≡ false) same (f (ReduceTask i) (lt-ltb i sh.parts h))))

module _ (sh : Shape) (st : State) (o p : Option Task) (touched : IsTouched sh st o p) where
  -- one of the two is stuck
  there : (q : Option Task) → ((t : Task) → q ≡ Some t → is_task sh t ≡ true) → option_map_or (is_stuck sh st) q false ≡ true → list_any (is_stuck sh st) (tasks sh) ≡ true
  there None here e = absurd (false≢true e)
  there (Some t) here e = one_of_all (is_stuck sh st) sh t (here t refl) e

  apart : (q : Option Task) (t : Task) → option_map_or (is_stuck sh st) q false ≡ false → is_stuck sh st t ≡ true → q ≡ Some t → ⊥
  apart q t e d f = false≢true (sym e ∙ ap (λ (x : Option Task). option_map_or (is_stuck sh st) x false) f ∙ d)

  pub stuck_first : option_map_or (is_stuck sh st) o false ≡ true → true ≡ list_any (is_stuck sh st) (tasks sh)
  stuck_first e = sym (there o touched.here e)

  pub stuck_second : option_map_or (is_stuck sh st) o false ≡ false → option_map_or (is_stuck sh st) p false ≡ list_any (is_stuck sh st) (tasks sh)
  stuck_second e = by (option_map_or (is_stuck sh st) p false) refl
    where
      by : (b : Bool) → option_map_or (is_stuck sh st) p false ≡ b → option_map_or (is_stuck sh st) p false ≡ list_any (is_stuck sh st) (tasks sh)
      by true d = d ∙ sym (there p touched.also d)
      by false d = d ∙ sym (none_of_tasks (is_stuck sh st) sh (λ t is. none t is (is_stuck sh st t) refl))
        where
          none : (t : Task) → is_task sh t ≡ true → (b : Bool) → is_stuck sh st t ≡ b → is_stuck sh st t ≡ false
          none t is false f = f
          none t is true f = touched.others t is (apart o t e f) (apart p t d f)

-- the end, as its tests answer
pub ended_as : (sh : Shape) (st old : State) (done lost over stuck : Bool) (end : Option End) → st ≡ old → done ≡ list_all is_some old.committed → lost ≡ list_all (λ x. x) old.lost → stuck ≡ list_any (is_stuck sh old) (tasks sh) → end ≡ first_end done lost over stuck
    → (let new : State = record st { end = end } in new) ≡ settled sh old over
ended_as sh st old done lost over stuck end same d l s e =
    let whole : first_end done lost over stuck ≡ end_of sh old over = rw (d, l, s) refl in
    λ i. record (same i) { end = (e ∙ whole) i }
