-- Of no public promise: what becomes of bytes that are put into a sink.
use Rattle.std.specs.Prelude.{◌≡◌, ◌≤◌, ◌⊎◌, ℕ, ◌+◌, List, [], ◌∷◌, ◌++◌, Bool, true, false, Option, Some, None, take, length}
use Rattle.std.specs.Io.KnownBytes.{append_known}
use Rattle.std.proofs.Common.{suc, refl, ap, sym, ◌∙◌, subst, inl, inr, arith, append_assoc, append-nil, length-append}
use Rattle.std.proofs.lemmas.Bool.{false≢true}
use Rattle.std.proofs.lemmas.List.{take-append-le}
use Rattle.mr_store.specs.Devices.{Seen, TookSome, with_bytes, once_failed}

-- ---- a list

pub list_same : (xs : List ℕ) → xs ≡ xs ++ []
list_same xs = sym (append-nil xs)

pub list_joined : (a b c xs ys : List ℕ) → b ≡ a ++ xs → c ≡ b ++ ys → c ≡ a ++ (xs ++ ys)
list_joined a b c xs ys h k = k ∙ (ap (λ w. w ++ ys) h ∙ append_assoc a xs ys)

-- ---- a writer behind a buffer

-- bytes that are to be written, once a call has failed or not, from one state of a writer to another: behind a failed
-- call none is; else a beginning of them is written and the rest is held, or a call has failed now and a beginning of
-- them is written
abbrev pub Went : {W : Type 0} → (W → Seen) → (W → Type 0) → (W → Bool) → W → W → Bool → Bool → List ℕ → List ℕ → Type 0
Went seen can_fail lacked old new true failed bytes held = (failed ≡ true) × (new ≡ old)
Went seen can_fail lacked old new false false bytes held = (written : List ℕ) × (seen new ≡ with_bytes (seen old) written) × (written ++ held ≡ bytes)
Went seen can_fail lacked old new false true bytes held = TookSome (seen old) (seen new) bytes × (can_fail old ⊎ (lacked new ≡ true))

-- and no call can fail that could not before
abbrev pub Passes : {W : Type 0} → (W → Seen) → (W → Type 0) → (W → Bool) → W → W → Bool → Bool → List ℕ → List ℕ → Type 0
Passes seen can_fail lacked old new was_failed is_failed bytes held =
    (can_fail new → can_fail old) × Went seen can_fail lacked old new was_failed is_failed bytes held

-- ---- one piece behind another

known_joined : (known : Option (List ℕ)) (xs ys : List ℕ) → append_known (append_known known xs) ys ≡ append_known known (xs ++ ys)
known_joined None xs ys = refl
known_joined (Some x) xs ys = ap Some (append_assoc x xs ys)

abbrev with_known : Seen → Option (List ℕ) → Seen
with_known w known = record { contents = known; handed_on = w.handed_on; failed = w.failed }

bytes_joined : (w : Seen) (xs ys : List ℕ) → with_bytes (with_bytes w xs) ys ≡ with_bytes w (xs ++ ys)
bytes_joined w xs ys = ap (λ known. with_known w known) (known_joined w.contents xs ys)

known_same : (known : Option (List ℕ)) → known ≡ append_known known []
known_same None = refl
known_same (Some x) = ap Some (list_same x)

bytes_same : (w : Seen) → w ≡ with_bytes w []
bytes_same w = ap (λ known. with_known w known) (known_same w.contents)

take_behind : (xs : List ℕ) (n : ℕ) (ys : List ℕ) → xs ++ take n ys ≡ take (length xs + n) (xs ++ ys)
take_behind [] n ys = ap (λ k. take k ys) (let e : n ≡ 0 + n = omega arith in e)
take_behind (x ∷ xs) n ys = ap (λ w. x ∷ w) (take_behind xs n ys)
    ∙ ap (λ k. take k (x ∷ (xs ++ ys))) (let e : suc (length xs + n) ≡ suc (length xs) + n = omega arith in e)

-- a beginning stays one, whatever is to come
took_more : (old new : Seen) (xs ys : List ℕ) → TookSome old new xs → TookSome old new (xs ++ ys)
took_more old new xs ys t =
    let few : t.0 ≤ length xs = t.1 in
    (t.0, omega (arith, few, length-append xs ys), t.2 ∙ ap (λ w. once_failed (with_bytes old w)) (sym (take-append-le (t.0) xs ys few)))

-- a beginning of what was held and came, behind what was written
took_behind : (old mid new : Seen) (written held all : List ℕ) → mid ≡ with_bytes old written → written ++ held ≡ all → TookSome mid new held → TookSome old new all
took_behind old mid new written held all m e t =
    let few : t.0 ≤ length held = t.1 in
    let size : length written + length held ≡ length all = sym (length-append written held) ∙ ap length e in (
      length written + t.0,
      omega (arith, few, size),
      t.2 ∙ ap once_failed (
          ap (λ w. with_bytes w (take (t.0) held)) m
          ∙ bytes_joined old written (take (t.0) held)
          ∙ ap (with_bytes old) (take_behind written (t.0) held ∙ ap (take (length written + t.0)) e)
          ),
    )

either : {A B : Type 0} → (A → B) → {C : Type 0} → A ⊎ C → B ⊎ C
either f (inl a) = inl (f a)
either f (inr c) = inr c

regroup : (a b h k xs ys m : List ℕ) → a ++ k ≡ h ++ xs → b ++ m ≡ k ++ ys → (a ++ b) ++ m ≡ h ++ (xs ++ ys)
regroup a b h k xs ys m e d = append_assoc a b m ∙ (ap (λ w. a ++ w) d ∙ (sym (append_assoc a k ys) ∙ (ap (λ w. w ++ ys) e ∙ append_assoc h xs ys)))

pub went_joined : {W : Type 0} (seen : W → Seen) (can_fail : W → Type 0) (lacked : W → Bool) (u v w : W) (p q r : Bool) (h k m xs ys : List ℕ)
    → (can_fail v → can_fail u) → Went seen can_fail lacked u v p q (h ++ xs) k → Went seen can_fail lacked v w q r (k ++ ys) m
    → Went seen can_fail lacked u w p r (h ++ (xs ++ ys)) m
went_joined seen can_fail lacked u v w true true r h k m xs ys f a b = (b.0, b.1 ∙ a.1)
went_joined seen can_fail lacked u v w true false r h k m xs ys f a b = absurd (false≢true a.0)
went_joined seen can_fail lacked u v w false true true h k m xs ys f a b = (
  subst (TookSome (seen u) (seen w)) (append_assoc h xs ys) (took_more (seen u) (seen w) (h ++ xs) ys (subst (λ x. TookSome (seen u) (seen x) (h ++ xs)) (sym b.1) a.0)),
  subst (λ x. can_fail u ⊎ (lacked x ≡ true)) (sym b.1) a.1,
)
went_joined seen can_fail lacked u v w false true false h k m xs ys f a b = absurd (false≢true b.0)
went_joined seen can_fail lacked u v w false false false h k m xs ys f a b = (
  a.0 ++ b.0,
  b.1 ∙ (ap (λ x. with_bytes x (b.0)) a.1 ∙ bytes_joined (seen u) (a.0) (b.0)),
  regroup (a.0) (b.0) h k xs ys m a.2 b.2,
)
went_joined seen can_fail lacked u v w false false true h k m xs ys f a b = (
  took_behind (seen u) (seen v) (seen w) (a.0) (k ++ ys) (h ++ (xs ++ ys)) a.1 (sym (append_assoc (a.0) k ys) ∙ (ap (λ x. x ++ ys) a.2 ∙ append_assoc h xs ys)) b.0,
  either f b.1,
)

-- nothing came
pub went_none : {W : Type 0} (seen : W → Seen) (can_fail : W → Type 0) (lacked : W → Bool) (w : W) (p : Bool) (h : List ℕ) → Went seen can_fail lacked w w p p (h ++ []) h
went_none seen can_fail lacked w true h = (refl, refl)
went_none seen can_fail lacked w false h = ([], bytes_same (seen w), list_same h)
