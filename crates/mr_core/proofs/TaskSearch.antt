-- What holds of no task, or of one.
use Rattle.std.proofs.Common.{◌≡◌, ℕ, zero, suc, ◌<◌, ◌+◌, List, [], ◌∷◌, map, refl, ap, sym, ◌∙◌, subst, inl, inr, arith, Bool, true, false, not, ◌&&◌, ◌||◌, ◌==◌}
use Rattle.std.specs.List.{list_any, range_with_len}
use Rattle.std.proofs.lemmas.List.FromFn.{map-range_with_len_more}
use Rattle.std.proofs.lemmas.List.Folds.{list_any-append}
use Rattle.std.proofs.lemmas.Bool.{and_parts, or_cases, ltb-true, lt-ltb, false≢true, true≢false}
use Rattle.mr_core.specs.declared.event.Task.{Task}
use Rattle.mr_core.specs.declared.event.Shape.{Shape}
use Rattle.mr_core.specs.declared.event.Task.TheVariants.{Map as MapTask, Reduce as ReduceTask}
use Rattle.mr_core.specs.Master.{State, tasks, is_task, may_newly, may_backup, may_give, is_open, live, has_live}

either : (a b : Bool) → a ≡ false → b ≡ false → (a || b) ≡ false
either a b e d = rw e d

left : (a b : Bool) → a ≡ true → (a || b) ≡ true
left a b e = rw e refl

right : (a b : Bool) → b ≡ true → (a || b) ≡ true
right true b e = refl
right false b e = e

-- none of the first n, and not the next
pub none_more : (p : Task → Bool) (f : ℕ → Task) (n : ℕ) → list_any p (map f (range_with_len 0 n)) ≡ false → p (f n) ≡ false → list_any p (map f (range_with_len 0 (n + 1))) ≡ false
none_more p f n e d =
    ap (list_any p) (map-range_with_len_more f 0 n n (omega arith))
    ∙ list_any-append p (map f (range_with_len 0 n)) (f n ∷ [])
    ∙ either (list_any p (map f (range_with_len 0 n))) (p (f n) || false) e (either (p (f n)) false d refl)

pub none_of_all : (p : Task → Bool) (sh : Shape) → list_any p (map MapTask (range_with_len 0 sh.maps)) ≡ false → list_any p (map ReduceTask (range_with_len 0 sh.parts)) ≡ false → list_any p (tasks sh) ≡ false
none_of_all p sh e d = list_any-append p (map MapTask (range_with_len 0 sh.maps)) (map ReduceTask (range_with_len 0 sh.parts)) ∙ either _ _ e d

one_in_range : (p : Task → Bool) (f : ℕ → Task) (a n i : ℕ) → i < n → p (f (a + i)) ≡ true → list_any p (map f (range_with_len a n)) ≡ true
one_in_range p f a zero i h e = absurd (omega arith)
one_in_range p f a (suc n) zero h e =
    let here : a + 0 ≡ a = omega arith in
    left (p (f a)) _ (subst (λ (k : ℕ). p (f k) ≡ true) here e)
one_in_range p f a (suc n) (suc i) h e =
    let there : a + suc i ≡ (a + 1) + i = omega arith in
    right (p (f a)) _ (one_in_range p f (a + 1) n i (omega arith) (subst (λ (k : ℕ). p (f k) ≡ true) there e))

from_zero : (p : Task → Bool) (f : ℕ → Task) (i : ℕ) → p (f i) ≡ true → p (f (0 + i)) ≡ true
from_zero p f i e = let same : i ≡ 0 + i = omega arith in subst (λ (k : ℕ). p (f k) ≡ true) same e

-- where one task is so
pub one_of_all : (p : Task → Bool) (sh : Shape) (t : Task) → is_task sh t ≡ true → p t ≡ true → list_any p (tasks sh) ≡ true
one_of_all p sh (MapTask s) is e = list_any-append p (map MapTask (range_with_len 0 sh.maps)) (map ReduceTask (range_with_len 0 sh.parts)) ∙ left _ _ (one_in_range p MapTask 0 sh.maps s (ltb-true s sh.maps is) (from_zero p MapTask s e))
one_of_all p sh (ReduceTask q) is e = list_any-append p (map MapTask (range_with_len 0 sh.maps)) (map ReduceTask (range_with_len 0 sh.parts)) ∙ right _ _ (one_in_range p ReduceTask 0 sh.parts q (ltb-true q sh.parts is) (from_zero p ReduceTask q e))

pub one_map : (p : Task → Bool) (sh : Shape) (s : ℕ) → s < sh.maps → p (MapTask s) ≡ true → list_any p (tasks sh) ≡ true
one_map p sh s h e = one_of_all p sh (MapTask s) (lt-ltb s sh.maps h) e

pub one_part : (p : Task → Bool) (sh : Shape) (q : ℕ) → q < sh.parts → p (ReduceTask q) ≡ true → list_any p (tasks sh) ≡ true
one_part p sh q h e = one_of_all p sh (ReduceTask q) (lt-ltb q sh.parts h) e

-- what holds where the other does
pub none_weaker : {X : Type 0} (p q : X → Bool) (xs : List X) → ((x : X) → p x ≡ true → q x ≡ true) → list_any q xs ≡ false → list_any p xs ≡ false
none_weaker p q [] f e = refl
none_weaker p q (x ∷ xs) f e = by (p x) refl (q x) refl e (none_weaker p q xs f)
  where
    by : (b : Bool) → p x ≡ b → (c : Bool) → q x ≡ c → (c || list_any q xs) ≡ false → (list_any q xs ≡ false → list_any p xs ≡ false) → (b || list_any p xs) ≡ false
    by b pe true qe h rest = absurd (true≢false h)
    by true pe false qe h rest = absurd (false≢true (sym qe ∙ f x pe))
    by false pe false qe h rest = rest h

-- ---- what may be given

pub none_newly_or_backup : (sh : Shape) (st : State) (w : ℕ) → list_any (may_newly sh st) (tasks sh) ≡ false → list_any (λ t. is_open sh st t && (live st t == 1)) (tasks sh) ≡ false → list_any (may_give sh st w) (tasks sh) ≡ false
none_newly_or_backup sh st w none idle = none_weaker (may_give sh st w) (λ t. is_open sh st t && (live st t == 1)) (tasks sh) as_backup idle
  where
    as_backup : (t : Task) → may_give sh st w t ≡ true → (is_open sh st t && (live st t == 1)) ≡ true
    as_backup t e =
        let is = and_parts (is_task sh t) (not (has_live st w) && (may_newly sh st t || may_backup sh st t)) e in
        let may = (and_parts (not (has_live st w)) (may_newly sh st t || may_backup sh st t) is.1).1 in
        elim (or_cases (may_newly sh st t) (may_backup sh st t) may) [
          | inl new ↦ absurd (false≢true (sym none ∙ one_of_all (may_newly sh st) sh t is.0 new))
          | inr back ↦ (
              let first = and_parts (is_open sh st t) ((live st t == 1) && not (list_any (may_newly sh st) (tasks sh))) back in
              let second = and_parts (live st t == 1) (not (list_any (may_newly sh st) (tasks sh))) first.1 in
              rw first.0 second.0
              )
        ]

pub none_for_busy : (sh : Shape) (st : State) (w : ℕ) → has_live st w ≡ true → list_any (may_give sh st w) (tasks sh) ≡ false
none_for_busy sh st w busy = none_weaker (may_give sh st w) (λ t. false) (tasks sh) (λ t e. absurd (never t e)) (none_false (tasks sh))
  where
    none_false : (ts : List Task) → list_any (λ t. false) ts ≡ false
    none_false [] = refl
    none_false (t ∷ ts) = none_false ts

    never : (t : Task) → may_give sh st w t ≡ true → ⊥
    never t e =
        let free = (and_parts (not (has_live st w)) (may_newly sh st t || may_backup sh st t) ((and_parts (is_task sh t) (not (has_live st w) && (may_newly sh st t || may_backup sh st t)) e).1)).0 in
        false≢true (sym (ap not busy) ∙ free)

pub backup_may : (sh : Shape) (st : State) (w : ℕ) (t : Task) → has_live st w ≡ false → is_task sh t ≡ true → list_any (may_newly sh st) (tasks sh) ≡ false → (is_open sh st t && (live st t == 1)) ≡ true → may_give sh st w t ≡ true
backup_may sh st w t free is none back =
    let b = and_parts (is_open sh st t) (live st t == 1) back in
    let may : may_backup sh st t ≡ true = rw b.0 (rw b.1 (rw none refl)) in
    rw is (rw free (right _ _ may))
