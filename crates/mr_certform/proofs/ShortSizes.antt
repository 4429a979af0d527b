-- A number and a name that stand are cut from the front, and as long as their spellings; also where what they stand in are no
-- bytes.
use Rattle.std.proofs.Common.{◌≡◌, ℕ, zero, suc, ◌+◌, ◌-◌, ◌*◌, ◌/◌, ◌%◌, ◌≤◌, Option, Some, None, List, [], ◌∷◌, ◌++◌, length, drop, refl, ap, sym, ◌∙◌, subst, arith, Bool, true, false, cond, ltb, eqb, length-append}
use Rattle.std.proofs.lemmas.Bool.{le-ltb, eqb-false}
use Rattle.std.proofs.lemmas.List.{length-drop, drop-drop}
use Rattle.mr_bytes.specs.declared.Name.{Name}
use Rattle.mr_certform.specs.Short.{short_bytes, short, NumberFront, with_lowest, short_from, short_at, record_base, place_base, short_name_bytes, NameFront, short_name_at}
use Rattle.mr_certform.proofs.Chosen.{not_chosen}
use Rattle.mr_certform.proofs.ShortLaws.{added_is, has_numbers}

-- what stands behind is so much of the whole, and is as much shorter as these bytes are long
abbrev pub Cut : List ℕ → List ℕ → List ℕ → Type 0
Cut bytes spelled rest = (k : ℕ) × (k ≤ length bytes) × (rest ≡ drop k bytes) × (length spelled ≡ k)

-- ---- a number

last_cut : (k b : ℕ) (bytes : List ℕ) → ltb b 128 ≡ true → Cut (b ∷ bytes) (short_bytes (suc k) b) bytes
last_cut k b bytes low = (1, omega arith, refl, ap (λ t. length (cond {A = List ℕ} t (b ∷ []) ((128 + b % 128) ∷ short_bytes k (b / 128)))) low)

lower_cut : (k b : ℕ) (bytes : List ℕ) (g : NumberFront) → eqb g.number 0 ≡ false → Cut bytes (short_bytes k g.number) g.rest
    → Cut (b ∷ bytes) (short_bytes (suc k) (b % 128 + 128 * g.number)) g.rest
lower_cut k b bytes g e (j, fits, rest, size) =
    let n : ℕ = b % 128 + 128 * g.number in
    let some : g.number ≡ 0 → ⊥ = eqb-false g.number 0 e in
    let big : ltb (b % 128 + 128 * g.number) 128 ≡ false = le-ltb (b % 128 + 128 * g.number) 128 (omega (arith, some)) in
    let high : (b % 128 + 128 * g.number) / 128 ≡ g.number = omega arith in
    let long : length (short_bytes (suc k) (b % 128 + 128 * g.number)) ≡ suc (length (short_bytes k ((b % 128 + 128 * g.number) / 128))) =
    ap (λ t. length (cond {A = List ℕ} t ((b % 128 + 128 * g.number) ∷ []) ((128 + (b % 128 + 128 * g.number) % 128) ∷ short_bytes k ((b % 128 + 128 * g.number) / 128)))) big in
    (suc j, omega (arith, fits), rest, omega (arith, long, ap (λ m. length (short_bytes k m)) high, size))

abbrev CutInside : ℕ → List ℕ → Type 0
CutInside k bytes = (g : NumberFront) → short_from k bytes ≡ Some g → Cut bytes (short_bytes k g.number) g.rest

from_cut : (k : ℕ) (bytes : List ℕ) (f : NumberFront) → short_from k bytes ≡ Some f → Cut bytes (short_bytes k f.number) f.rest
from_cut zero bytes f e = absurd (cc e)
from_cut (suc k) [] f e = absurd (cc e)
from_cut (suc k) (b ∷ bytes) f e = by (ltb b 128) refl (λ g is. from_cut k bytes g is) e
  where
    more : CutInside k bytes → (o : Option NumberFront) → short_from k bytes ≡ o → with_lowest b o ≡ Some f → Cut (b ∷ bytes) (short_bytes (suc k) f.number) f.rest
    more inner None is e = absurd (cc e)
    more inner (Some g) is e =
        let c = not_chosen (eqb g.number 0) (Some (record { number = b % 128 + 128 * g.number; rest = g.rest })) f e in
        let same : record { number = b % 128 + 128 * g.number; rest = g.rest } ≡ f = cc (c.1) in
        subst (λ (h : NumberFront). Cut (b ∷ bytes) (short_bytes (suc k) h.number) h.rest) same (lower_cut k b bytes g (c.0) (inner g is))

    by : (t : Bool) → ltb b 128 ≡ t → CutInside k bytes → cond {A = Option NumberFront} t (Some (record { number = b; rest = bytes })) (with_lowest b (short_from k bytes)) ≡ Some f
        → Cut (b ∷ bytes) (short_bytes (suc k) f.number) f.rest
    by true low inner e =
        let same : record { number = b; rest = bytes } ≡ f = cc e in
        subst (λ (h : NumberFront). Cut (b ∷ bytes) (short_bytes (suc k) h.number) h.rest) same (last_cut k b bytes low)
    by false low inner e = more inner (short_from k bytes) refl e

short_cut : (base : ℕ) (bytes : List ℕ) (f : NumberFront) → short_at base bytes ≡ Some f → Cut bytes (short (f.number - base)) f.rest
unfolding short_at short
short_cut base bytes f e =
    let a = added_is base (short_from 5 bytes) f e in
    let less : base + a.found.number - base ≡ a.found.number = omega arith in
    subst (λ (g : NumberFront). Cut bytes (short_bytes 5 (g.number - base)) g.rest) a.same
    (subst (λ m. Cut bytes (short_bytes 5 m) a.found.rest) (sym less) (from_cut 5 bytes a.found a.is))

-- ---- a name

-- two cuts, one behind the other
cut_again : (bytes next rest xs ys : List ℕ) → Cut bytes xs next → Cut next ys rest → Cut bytes (xs ++ ys) rest
cut_again bytes next rest xs ys (k, fits, e, size) (j, within, d, more) =
    let left : length next ≡ length bytes - k = omega (arith, ap length e, length-drop k bytes) in (
      k + j,
      omega (arith, within, left, fits),
      d ∙ (ap (drop j) e ∙ (drop-drop j k bytes ∙ ap (λ w. drop w bytes) refl)),
      omega (arith, size, more, length-append xs ys),
    )

short_name_cut : (before : Name) (bytes : List ℕ) (f : NameFront) → short_name_at before bytes ≡ Some f → Cut bytes (short_name_bytes before f.name) f.rest
unfolding short_name_bytes
short_name_cut before bytes f e =
    let n = has_numbers before bytes f e in
    let s = short_cut before.split bytes n.split n.split_is in
    let r = short_cut (record_base before n.split.number) n.split.rest n.rec n.rec_is in
    let p = short_cut (place_base before n.split.number n.rec.number) n.rec.rest n.place n.place_is in
    subst (λ (g : NameFront). Cut bytes ((short (g.name.split - before.split) ++ short (g.name.rec - record_base before g.name.split)) ++ short (g.name.place - place_base before g.name.split g.name.rec)) g.rest) n.same
    (cut_again bytes n.rec.rest n.place.rest _ _ (cut_again bytes n.split.rest n.rec.rest _ _ s r) p)

pub name_cut : (before : Name) (bytes : List ℕ) (f : NameFront) → short_name_at before bytes ≡ Some f → (k : ℕ) × (k ≤ length bytes) × (f.rest ≡ drop k bytes)
name_cut before bytes f e = let c = short_name_cut before bytes f e in (c.0, c.1, c.2)

pub name_sized : (before : Name) (bytes : List ℕ) (f : NameFront) → short_name_at before bytes ≡ Some f → length (short_name_bytes before f.name) + length f.rest ≡ length bytes
name_sized before bytes f e = let c = short_name_cut before bytes f e in omega (arith, c.1, c.3, ap length c.2, length-drop c.0 bytes)
