-- A history with one event more: its numbers, and what it has accepted.
use Rattle.std.proofs.Common.{◌≡◌, ℕ, suc, ◌+◌, ◌<◌, ◌≤◌, Option, Some, None, List, [], ◌∷◌, ◌++◌, length, refl, ap, sym, ◌∙◌, subst, append_assoc, append-nil, arith, inl, inr, ◌⊎◌}
use Rattle.std.specs.Prelude.{IfSome, Result, Ok, Err, IfOk, OnErr}
use Rattle.std.specs.List.{AllByRecursion, flat_map}
use Rattle.std.specs.Ordering.{nat_cmp}
use Rattle.std.specs.Cmp.{nat_cmp_is}
use Rattle.std.specs.declared.cmp.Ordering.TheVariants.{Less}
use Rattle.mr_bytes.specs.Lists.{Rises}
use Rattle.mr_task.specs.Values.{Reduced}
use Rattle.mr_core.specs.declared.event.Event.{Event}
use Rattle.mr_core.specs.declared.event.Event.TheVariants.{MapDone, ReduceDone}
use Rattle.mr_core.specs.declared.event.Reply.{Reply}
use Rattle.mr_core.specs.declared.event.Reply.TheVariants.{Accepted}
use Rattle.mr_book.specs.Stored.{numbers, stored_by}
use Rattle.mr_task.specs.Laid.{Laid}
use Rattle.mr_book.specs.View.{accepted_map, accepted_reduce, accepted_maps, accepted_reduces, output_with, AreNumbered, StoresAccepted}

abbrev pub Events : Type 0
Events = List (Event × Reply)

-- ---- numbers

numbered_push : (place : ℕ) (h : Events) (x : Event × Reply) → AreNumbered place h → IfSome (output_with (x.0)) (λ o. o ≡ place + length h) → AreNumbered place (h ++ x ∷ [])
numbered_push place [] x all one = let e : place + 0 ≡ place = omega arith in (subst (λ (n : ℕ). IfSome (output_with (x.0)) (λ o. o ≡ n)) e one, tt)
numbered_push place (y ∷ h) x all one =
    let e : place + suc (length h) ≡ suc place + length h = omega arith in
    (all.0, numbered_push (suc place) h x all.1 (subst (λ (n : ℕ). IfSome (output_with (x.0)) (λ o. o ≡ n)) e one))

-- an event more, whose output, if it has one, is numbered by the events before it
numbered_next : (h : Events) (x : Event × Reply) → AreNumbered 0 h → IfSome (output_with (x.0)) (λ o. o ≡ length h) → AreNumbered 0 (h ++ x ∷ [])
numbered_next h x all one = let e : length h ≡ 0 + length h = omega arith in numbered_push 0 h x all (subst (λ (n : ℕ). IfSome (output_with (x.0)) (λ o. o ≡ n)) e one)

all_weaker : (P Q : ℕ → Type 0) (xs : List ℕ) → ((x : ℕ) → P x → Q x) → AllByRecursion P xs → AllByRecursion Q xs
all_weaker P Q [] f all = tt
all_weaker P Q (x ∷ xs) f all = (f x all.0, all_weaker P Q xs f all.1)

less : (x y : ℕ) → x < y → nat_cmp x y ≡ Less
less x y h = sym (nat_cmp_is x y Less h)

-- what is accepted of an event is nothing, or its output's number
abbrev OneNumber : (Event × Reply → List ℕ) → Type 0
OneNumber f = (x : Event × Reply) → (f x ≡ []) ⊎ ((o : ℕ) × (output_with (x.0) ≡ Some o) × (f x ≡ o ∷ []))

abbrev Up : ℕ → List ℕ → Type 0
Up place l = Rises nat_cmp l × AllByRecursion (λ n. place ≤ n) l

module _ (f : Event × Reply → List ℕ) (one : OneNumber f) where
  rises_up : (place end : ℕ) (h : Events) → end ≡ place + length h → AreNumbered place h → Up place (flat_map f h ++ end ∷ [])
  rises_up place end [] e all = ((tt, tt), (omega arith, tt))
  rises_up place end (x ∷ h) e all =
      let rest = rises_up (suc place) end h (omega arith) all.1 in
      elim (one x) [
        | inl none ↦ subst (λ (l : List ℕ). Up place ((l ++ flat_map f h) ++ end ∷ [])) (sym none) (rest.0, all_weaker (λ n. suc place ≤ n) (λ n. place ≤ n) _ (λ n le. omega arith) rest.1)
        | inr some ↦ (
            let here : some.0 ≡ place = subst (λ (o : Option ℕ). IfSome o (λ n. n ≡ place)) some.1 all.0 in
            subst (λ (l : List ℕ). Up place ((l ++ flat_map f h) ++ end ∷ [])) (sym some.2) (
              (all_weaker (λ n. suc place ≤ n) (λ n. nat_cmp (some.0) n ≡ Less) _ (λ n le. less (some.0) n (omega arith)) rest.1, rest.0),
              (omega arith, all_weaker (λ n. suc place ≤ n) (λ n. place ≤ n) _ (λ n le. omega arith) rest.1),
            ))
      ]

one_map : OneNumber accepted_map
one_map (MapDone a o, Accepted) = inr (o, refl, refl)
one_map _ = inl refl

one_reduce : OneNumber accepted_reduce
one_reduce (ReduceDone a o, Accepted) = inr (o, refl, refl)
one_reduce _ = inl refl

-- the number of events is past the numbers of all outputs
pub next_map : (h : Events) (stored l : List (ℕ × Laid)) (n : ℕ) → AreNumbered 0 h → numbers stored ≡ accepted_maps h → l ≡ stored → n ≡ length h → Rises nat_cmp (numbers l ++ n ∷ [])
next_map h stored l n all same e len = subst (λ (l : List ℕ). Rises nat_cmp (l ++ n ∷ [])) (sym (ap numbers e ∙ same)) ((rises_up accepted_map one_map 0 n h (omega (arith, len)) all).0)

pub next_reduce : (h : Events) (stored l : List (ℕ × Reduced)) (n : ℕ) → AreNumbered 0 h → numbers stored ≡ accepted_reduces h → l ≡ stored → n ≡ length h → Rises nat_cmp (numbers l ++ n ∷ [])
next_reduce h stored l n all same e len = subst (λ (l : List ℕ). Rises nat_cmp (l ++ n ∷ [])) (sym (ap numbers e ∙ same)) ((rises_up accepted_reduce one_reduce 0 n h (omega (arith, len)) all).0)

-- ---- what is accepted

flat_map_push : (f : Event × Reply → List ℕ) (h : Events) (x : Event × Reply) → flat_map f (h ++ x ∷ []) ≡ flat_map f h ++ f x
flat_map_push f [] x = append-nil (f x)
flat_map_push f (y ∷ h) x = ap (λ l. f y ++ l) (flat_map_push f h x) ∙ sym (append_assoc (f y) (flat_map f h) (f x))

numbers_push : {V : Type 0} (stored : List (ℕ × V)) (n : ℕ) (v : V) → numbers (stored ++ (n, v) ∷ []) ≡ numbers stored ++ n ∷ []
numbers_push [] n v = refl
numbers_push (s ∷ stored) n v = ap (λ l. s.0 ∷ l) (numbers_push stored n v)

stored_map : (stored : List (ℕ × Laid)) (a n : ℕ) (v : Laid) (r : Reply) → numbers (stored_by stored n v r) ≡ numbers stored ++ accepted_map (MapDone a n, r)
stored_map stored a n v Accepted = numbers_push stored n v
stored_map stored a n v _ = sym (append-nil (numbers stored))

stored_reduce : (stored : List (ℕ × Reduced)) (a n : ℕ) (v : Reduced) (r : Reply) → numbers (stored_by stored n v r) ≡ numbers stored ++ accepted_reduce (ReduceDone a n, r)
stored_reduce stored a n v Accepted = numbers_push stored n v
stored_reduce stored a n v _ = sym (append-nil (numbers stored))

same_numbers : (f : Event × Reply → List ℕ) (h : Events) (x : Event × Reply) (l l' : List ℕ) → l ≡ flat_map f h → l' ≡ l ++ f x → l' ≡ flat_map f (h ++ x ∷ [])
same_numbers f h x l l' was now = now ∙ ap (λ k. k ++ f x) was ∙ sym (flat_map_push f h x)

no_number : (f : Event × Reply → List ℕ) (h : Events) (x : Event × Reply) (l : List ℕ) → f x ≡ [] → l ≡ flat_map f h → l ≡ flat_map f (h ++ x ∷ [])
no_number f h x l none was = same_numbers f h x l l was (sym (ap (λ k. l ++ k) none ∙ append-nil l))

no_map : (e : Event) (r : Reply) → output_with e ≡ None → accepted_map (e, r) ≡ []
no_map (MapDone a o) r none = absurd (cc none)
no_map _ r none = refl

no_reduce : (e : Event) (r : Reply) → output_with e ≡ None → accepted_reduce (e, r) ≡ []
no_reduce (ReduceDone a o) r none = absurd (cc none)
no_reduce _ r none = refl

-- ---- a call more

module _ (h : Events) (maps : List (ℕ × Laid)) (reduces : List (ℕ × Reduced)) (old : StoresAccepted h maps reduces) where
  heard : (e : Event) (r : Reply) → output_with e ≡ None → StoresAccepted (h ++ (e, r) ∷ []) maps reduces
  heard e r none = record {
    numbered = numbered_next h (e, r) old.numbered (subst (λ (o : Option ℕ). IfSome o (λ n. n ≡ length h)) (sym none) tt);
    maps = no_number accepted_map h (e, r) (numbers maps) (no_map e r none) old.maps;
    reduces = no_number accepted_reduce h (e, r) (numbers reduces) (no_reduce e r none) old.reduces;
  }

  -- after an event with no output, or where memory was wanting
  pub hears : {E : Type 0} (e : Event) (result : Result Reply E) (h' : Events) → output_with e ≡ None → IfOk result (λ r. h' ≡ h ++ (e, r) ∷ []) → OnErr result (h' ≡ h) → StoresAccepted h' maps reduces
  hears e (Ok r) h' none ok err = subst (λ (k : Events). StoresAccepted k maps reduces) (sym ok) (heard e r none)
  hears e (Err y) h' none ok err = subst (λ (k : Events). StoresAccepted k maps reduces) (sym err) old

  -- after a map task's output came
  pub takes_map : (a n : ℕ) (v : Laid) (r : Reply) (h' : Events) (maps' : List (ℕ × Laid)) → n ≡ length h → h' ≡ h ++ (MapDone a n, r) ∷ [] → maps' ≡ stored_by maps n v r → StoresAccepted h' maps' reduces
  takes_map a n v r h' maps' len is now = subst (λ (k : Events). StoresAccepted k maps' reduces) (sym is) record {
    numbered = numbered_next h (MapDone a n, r) old.numbered len;
    maps = same_numbers accepted_map h (MapDone a n, r) (numbers maps) (numbers maps') old.maps (ap numbers now ∙ stored_map maps a n v r);
    reduces = no_number accepted_reduce h (MapDone a n, r) (numbers reduces) refl old.reduces;
  }

  -- after a reduce task's output came
  pub takes_reduce : (a n : ℕ) (v : Reduced) (r : Reply) (h' : Events) (reduces' : List (ℕ × Reduced)) → n ≡ length h → h' ≡ h ++ (ReduceDone a n, r) ∷ [] → reduces' ≡ stored_by reduces n v r → StoresAccepted h' maps reduces'
  takes_reduce a n v r h' reduces' len is now = subst (λ (k : Events). StoresAccepted k maps reduces') (sym is) record {
    numbered = numbered_next h (ReduceDone a n, r) old.numbered len;
    maps = no_number accepted_map h (ReduceDone a n, r) (numbers maps) refl old.maps;
    reduces = same_numbers accepted_reduce h (ReduceDone a n, r) (numbers reduces) (numbers reduces') old.reduces (ap numbers now ∙ stored_reduce reduces a n v r);
  }
