-- A name in few bytes: what stands is spelled so, and what is spelled stands.
use Rattle.std.proofs.Common.{◌≡◌, ◌⊎◌, ℕ, zero, suc, ◌+◌, ◌-◌, ◌*◌, ◌/◌, ◌%◌, ◌^◌, ◌<◌, ◌≤◌, Option, Some, None, List, [], ◌∷◌, ◌++◌, length, refl, ap, sym, ◌∙◌, subst, inl, inr, arith, Bool, true, false, cond, ltb, eqb, append_assoc, length-append}
use Rattle.std.proofs.lemmas.Bool.{ltb-true, ltb-false, lt-ltb, le-ltb, eqb-true, eqb-false, eq-eqb, ne_eqb, and_parts, and_from, cases_order}
use Rattle.std.proofs.lemmas.Cmp.{ranked}
use Rattle.std.proofs.lemmas.Nat.{mul-le}
use Rattle.std.specs.declared.cmp.Ordering.{Ordering}
use Rattle.std.specs.declared.cmp.Ordering.TheVariants.{Less, Equal, Greater}
use Rattle.std.specs.Ordering.{MatchOrdering, nat_cmp, ordering_then}
use Rattle.mr_bytes.specs.Order.{name_order}
use Rattle.mr_bytes.specs.declared.Name.{Name}
use Rattle.mr_certform.specs.Places.{first_name}
use Rattle.mr_certform.specs.Value.{NameFits}
use Rattle.mr_certform.specs.Grammar.{AreBytes}
use Rattle.mr_certform.proofs.Chosen.{chosen, not_chosen}
use Rattle.mr_certform.specs.Short.{short_bytes, short, NumberFront, with_lowest, short_from, added, short_at, record_base, place_base, short_name_bytes, NameFront, behind_number, named, from_place, from_record, short_name_at, IsAtLeast}

-- ---- worked values

three_hundred : short 300 ≡ 0xac ∷ 0x02 ∷ []
unfolding short
three_hundred = refl

greatest : short 4294967295 ≡ 0xff ∷ 0xff ∷ 0xff ∷ 0xff ∷ 0x0f ∷ []
unfolding short
greatest = refl

three_hundred_again : short_at 0 (0xac ∷ 0x02 ∷ 7 ∷ []) ≡ Some (record { number = 300; rest = 7 ∷ [] })
unfolding short_at
three_hundred_again = refl

greatest_again : short_at 0 (0xff ∷ 0xff ∷ 0xff ∷ 0xff ∷ 0x0f ∷ []) ≡ Some (record { number = 4294967295; rest = [] })
unfolding short_at
greatest_again = refl

ends_in_nothing : short_at 0 (0x82 ∷ 0x00 ∷ []) ≡ None
unfolding short_at
ends_in_nothing = refl

too_great : short_at 0 (0xff ∷ 0xff ∷ 0xff ∷ 0xff ∷ 0x1f ∷ []) ≡ None
unfolding short_at
too_great = refl

too_long : short_at 0 (0xff ∷ 0xff ∷ 0xff ∷ 0xff ∷ 0xff ∷ 0x01 ∷ []) ≡ None
unfolding short_at
too_long = refl

behind_too_great : short_at 1 (0xff ∷ 0xff ∷ 0xff ∷ 0xff ∷ 0x0f ∷ []) ≡ None
unfolding short_at
behind_too_great = refl

second_place : short_name_bytes first_name (record { split = 0; rec = 0; place = 2 }) ≡ 0 ∷ 0 ∷ 2 ∷ []
unfolding short_name_bytes short
second_place = refl

second_place_again : short_name_at first_name (0 ∷ 0 ∷ 2 ∷ 9 ∷ []) ≡ Some (record { name = record { split = 0; rec = 0; place = 2 }; rest = 9 ∷ [] })
unfolding short_name_at short_at
second_place_again = refl

-- behind another record the place is whole, and so is the record behind another split
next_record : short_name_bytes (record { split = 3; rec = 5; place = 40 }) (record { split = 3; rec = 7; place = 6 }) ≡ 0 ∷ 2 ∷ 6 ∷ []
unfolding short_name_bytes short
next_record = refl

next_split : short_name_bytes (record { split = 3; rec = 5; place = 40 }) (record { split = 4; rec = 5; place = 40 }) ≡ 1 ∷ 5 ∷ 40 ∷ []
unfolding short_name_bytes short
next_split = refl

next_place : short_name_at (record { split = 3; rec = 5; place = 40 }) (0 ∷ 0 ∷ 0xac ∷ 0x02 ∷ []) ≡ Some (record { name = record { split = 3; rec = 5; place = 340 }; rest = [] })
unfolding short_name_at short_at
next_place = refl

-- ---- a number that is spelled

-- how many numbers have so many bytes at most
abbrev pub capacity : ℕ → ℕ
capacity zero = 1
capacity (suc k) = 128 * capacity k

abbrev Number : ℕ → List ℕ → Option NumberFront
Number n rest = Some (record { number = n; rest = rest })

with_high : (n : ℕ) (rest : List ℕ) → 128 ≤ n → with_lowest (128 + n % 128) (Number (n / 128) rest) ≡ Number n rest
with_high n rest big =
    let some : eqb (n / 128) 0 ≡ false = ne_eqb (n / 128) 0 (λ e. omega (arith, e)) in
    let whole : (128 + n % 128) % 128 + 128 * (n / 128) ≡ n = omega arith in
    ap (λ t. cond {A = Option NumberFront} t None (Number ((128 + n % 128) % 128 + 128 * (n / 128)) rest)) some ∙ ap (λ m. Number m rest) whole

number_step : (k n : ℕ) (rest : List ℕ) → (128 ≤ n → short_from k (short_bytes k (n / 128) ++ rest) ≡ Number (n / 128) rest)
    → short_from (suc k) (short_bytes (suc k) n ++ rest) ≡ Number n rest
number_step k n rest inner = by (ltb n 128) refl
  where
    by : (t : Bool) → ltb n 128 ≡ t → short_from (suc k) (cond t (n ∷ []) ((128 + n % 128) ∷ short_bytes k (n / 128)) ++ rest) ≡ Number n rest
    by true e = ap (λ t. cond {A = Option NumberFront} t (Number n rest) (with_lowest n (short_from k rest))) e
    by false e =
        let big : 128 ≤ n = ltb-false n 128 e in
        let more : List ℕ = short_bytes k (n / 128) ++ rest in
        let high : ltb (128 + n % 128) 128 ≡ false = le-ltb (128 + n % 128) 128 (omega arith) in
        ap (λ t. cond {A = Option NumberFront} t (Number (128 + n % 128) more) (with_lowest (128 + n % 128) (short_from k more))) high
        ∙ (ap (with_lowest (128 + n % 128)) (inner big) ∙ with_high n rest big)

number_again : (k n : ℕ) (rest : List ℕ) → n < capacity (suc k) → short_from (suc k) (short_bytes (suc k) n ++ rest) ≡ Number n rest
number_again zero n rest fits = number_step zero n rest (λ big. absurd (omega arith))
number_again (suc k) n rest fits = number_step (suc k) n rest (λ big. number_again k (n / 128) rest (omega arith))

-- ---- a number that stands

record IsNumberFront (k : ℕ) (bytes : List ℕ) (f : NumberFront) : Type 0 where
  below : f.number < capacity k
  spelled : bytes ≡ short_bytes k f.number ++ f.rest
  rest : AreBytes f.rest

some_capacity : (k : ℕ) → 1 ≤ capacity k
some_capacity zero = omega arith
some_capacity (suc k) = omega (arith, some_capacity k)

last_byte : (k b : ℕ) (bytes : List ℕ) → AreBytes (b ∷ bytes) → ltb b 128 ≡ true → IsNumberFront (suc k) (b ∷ bytes) (record { number = b; rest = bytes })
last_byte k b bytes fits e =
    let low : b < 128 = ltb-true b 128 e in
    record {
      below = omega (arith, some_capacity k);
      spelled = sym (ap (λ t. cond {A = List ℕ} t (b ∷ []) ((128 + b % 128) ∷ short_bytes k (b / 128)) ++ bytes) e);
      rest = λ i. fits (suc i);
    }

lower_byte : (k b : ℕ) (bytes : List ℕ) (g : NumberFront) → b < 256 → 128 ≤ b → (eqb g.number 0 ≡ false) → IsNumberFront k bytes g
    → IsNumberFront (suc k) (b ∷ bytes) (record { number = b % 128 + 128 * g.number; rest = g.rest })
lower_byte k b bytes g byte high e is =
    let n : ℕ = b % 128 + 128 * g.number in
    let some : g.number ≡ 0 → ⊥ = eqb-false g.number 0 e in
    let below : g.number < capacity k = is.below in
    let big : ltb (b % 128 + 128 * g.number) 128 ≡ false = le-ltb (b % 128 + 128 * g.number) 128 (omega (arith, some)) in
    let low : 128 + (b % 128 + 128 * g.number) % 128 ≡ b = omega arith in
    let rest : (b % 128 + 128 * g.number) / 128 ≡ g.number = omega arith in
    record {
      below = omega arith;
      spelled = sym (
          ap (λ t. cond {A = List ℕ} t (n ∷ []) ((128 + n % 128) ∷ short_bytes k (n / 128)) ++ g.rest) big
          ∙ (ap (λ w. w ∷ (short_bytes k (n / 128) ++ g.rest)) low ∙ (ap (λ w. b ∷ (short_bytes k w ++ g.rest)) rest ∙ ap (λ w. b ∷ w) (sym is.spelled)))
          );
      rest = is.rest;
    }

abbrev IsInside : ℕ → List ℕ → Type 0
IsInside k bytes = (g : NumberFront) → short_from k bytes ≡ Some g → IsNumberFront k bytes g

number_is : (k : ℕ) (bytes : List ℕ) (f : NumberFront) → AreBytes bytes → short_from k bytes ≡ Some f → IsNumberFront k bytes f
number_is zero bytes f fits e = absurd (cc e)
number_is (suc k) [] f fits e = absurd (cc e)
number_is (suc k) (b ∷ bytes) f fits e = by (ltb b 128) refl (λ g is. number_is k bytes g (λ i. fits (suc i)) is) e
  where
    more : ltb b 128 ≡ false → IsInside k bytes → (o : Option NumberFront) → short_from k bytes ≡ o → with_lowest b o ≡ Some f → IsNumberFront (suc k) (b ∷ bytes) f
    more high inner None is e = absurd (cc e)
    more high inner (Some g) is e =
        let c = not_chosen (eqb g.number 0) (Some (record { number = b % 128 + 128 * g.number; rest = g.rest })) f e in
        let same : record { number = b % 128 + 128 * g.number; rest = g.rest } ≡ f = cc (c.1) in
        subst (IsNumberFront (suc k) (b ∷ bytes)) same (lower_byte k b bytes g (fits 0) (ltb-false b 128 high) (c.0) (inner g is))

    by : (t : Bool) → ltb b 128 ≡ t → IsInside k bytes → cond {A = Option NumberFront} t (Number b bytes) (with_lowest b (short_from k bytes)) ≡ Some f → IsNumberFront (suc k) (b ∷ bytes) f
    by true low inner e =
        let same : record { number = b; rest = bytes } ≡ f = cc e in
        subst (IsNumberFront (suc k) (b ∷ bytes)) same (last_byte k b bytes fits low)
    by false high inner e = more high inner (short_from k bytes) refl e

-- ---- more bytes behind

abbrev pub number_before : List ℕ → Option NumberFront → Option NumberFront
number_before more None = None
number_before more (Some f) = Some (record { number = f.number; rest = f.rest ++ more })

lowest_long : (b : ℕ) (o : Option NumberFront) (more : List ℕ) → with_lowest b (number_before more o) ≡ number_before more (with_lowest b o)
lowest_long b None more = refl
lowest_long b (Some f) more = by (eqb f.number 0)
  where
    by : (t : Bool) → cond {A = Option NumberFront} t None (Number (b % 128 + 128 * f.number) (f.rest ++ more)) ≡ number_before more (cond {A = Option NumberFront} t None (Number (b % 128 + 128 * f.number) f.rest))
    by true = refl
    by false = refl

from_long : (k : ℕ) (held more : List ℕ) → k ≤ length held → short_from k (held ++ more) ≡ number_before more (short_from k held)
from_long zero held more long = refl
from_long (suc k) [] more long = absurd (omega arith)
from_long (suc k) (b ∷ held) more long = by (ltb b 128) (from_long k held more (omega arith))
  where
    by : (t : Bool) → short_from k (held ++ more) ≡ number_before more (short_from k held)
        → cond {A = Option NumberFront} t (Number b (held ++ more)) (with_lowest b (short_from k (held ++ more))) ≡ number_before more (cond {A = Option NumberFront} t (Number b held) (with_lowest b (short_from k held)))
    by true inner = refl
    by false inner = ap (with_lowest b) inner ∙ lowest_long b (short_from k held) more

-- ---- how many bytes a number has

abbrev Passes : ℕ → List ℕ → List ℕ → Type 0
Passes k bytes rest = (length rest < length bytes) × (length bytes ≤ length rest + k)

abbrev PassesInside : ℕ → List ℕ → Type 0
PassesInside k bytes = (g : NumberFront) → short_from k bytes ≡ Some g → Passes k bytes g.rest

from_passes : (k : ℕ) (bytes : List ℕ) (f : NumberFront) → short_from k bytes ≡ Some f → Passes k bytes f.rest
from_passes zero bytes f e = absurd (cc e)
from_passes (suc k) [] f e = absurd (cc e)
from_passes (suc k) (b ∷ bytes) f e = by (ltb b 128) (λ g is. from_passes k bytes g is) e
  where
    more : PassesInside k bytes → (o : Option NumberFront) → short_from k bytes ≡ o → with_lowest b o ≡ Some f → Passes (suc k) (b ∷ bytes) f.rest
    more step None is e = absurd (cc e)
    more step (Some g) is e =
        let c = not_chosen (eqb g.number 0) (Some (record { number = b % 128 + 128 * g.number; rest = g.rest })) f e in
        let same : g.rest ≡ f.rest = cc (c.1) in
        let inner : Passes k bytes g.rest = step g is in
        subst (Passes (suc k) (b ∷ bytes)) same (omega (arith, inner.0), omega (arith, inner.1))

    by : (t : Bool) → PassesInside k bytes → cond {A = Option NumberFront} t (Number b bytes) (with_lowest b (short_from k bytes)) ≡ Some f → Passes (suc k) (b ∷ bytes) f.rest
    by true step e =
        let same : bytes ≡ f.rest = cc e in
        subst (Passes (suc k) (b ∷ bytes)) same (omega arith, omega arith)
    by false step e = more step (short_from k bytes) refl e

bytes_few : (k n : ℕ) → length (short_bytes k n) ≤ k
bytes_few zero n = omega arith
bytes_few (suc k) n = by (ltb n 128) (bytes_few k (n / 128))
  where
    by : (t : Bool) → length (short_bytes k (n / 128)) ≤ k → length (cond {A = List ℕ} t (n ∷ []) ((128 + n % 128) ∷ short_bytes k (n / 128))) ≤ suc k
    by true few = omega arith
    by false few = omega arith

bytes_some : (k n : ℕ) → 1 ≤ length (short_bytes (suc k) n)
bytes_some k n = by (ltb n 128)
  where
    by : (t : Bool) → 1 ≤ length (cond {A = List ℕ} t (n ∷ []) ((128 + n % 128) ∷ short_bytes k (n / 128)))
    by true = omega arith
    by false = omega arith

-- ---- a number behind another

-- what was added
pub record IsAdded (base : ℕ) (o : Option NumberFront) (f : NumberFront) : Type 0 where
  pub found : NumberFront
  pub is : o ≡ Some found
  pub below : base + found.number < 2 ^ 32
  pub same : record { number = base + found.number; rest = found.rest } ≡ f

pub added_is : (base : ℕ) (o : Option NumberFront) (f : NumberFront) → added base o ≡ Some f → IsAdded base o f
added_is base None f e = absurd (cc e)
added_is base (Some g) f e =
    let c = chosen (ltb (base + g.number) (2 ^ 32)) (record { number = base + g.number; rest = g.rest }) f e in
    record { found = g; is = refl; below = ltb-true (base + g.number) (2 ^ 32) (c.0); same = c.1 }

added_long : (base : ℕ) (o : Option NumberFront) (more : List ℕ) → added base (number_before more o) ≡ number_before more (added base o)
added_long base None more = refl
added_long base (Some f) more = by (ltb (base + f.number) (2 ^ 32))
  where
    by : (t : Bool) → cond {A = Option NumberFront} t (Number (base + f.number) (f.rest ++ more)) None ≡ number_before more (cond {A = Option NumberFront} t (Number (base + f.number) f.rest) None)
    by true = refl
    by false = refl

-- what is spelled stands
pub short_again : (base n : ℕ) (rest : List ℕ) → base ≤ n → n < 2 ^ 32 → short_at base (short (n - base) ++ rest) ≡ Some (record { number = n; rest = rest })
unfolding short_at short
short_again base n rest least below =
    let here : short_from 5 (short_bytes 5 (n - base) ++ rest) ≡ Number (n - base) rest = number_again 4 (n - base) rest (omega arith) in
    let sum : base + (n - base) ≡ n = omega arith in
    ap (added base) here ∙ (ap (λ m. cond {A = Option NumberFront} (ltb m (2 ^ 32)) (Number m rest) None) sum
    ∙ ap (λ t. cond {A = Option NumberFront} t (Number n rest) None) (lt-ltb n (2 ^ 32) below))

-- what stands is spelled so
pub record IsShort (base : ℕ) (bytes : List ℕ) (f : NumberFront) : Type 0 where
  pub least : base ≤ f.number
  pub below : f.number < 2 ^ 32
  pub spelled : bytes ≡ short (f.number - base) ++ f.rest
  pub rest : AreBytes f.rest

pub is_short : (base : ℕ) (bytes : List ℕ) (f : NumberFront) → AreBytes bytes → short_at base bytes ≡ Some f → IsShort base bytes f
unfolding short_at short
is_short base bytes f fits e =
    let a = added_is base (short_from 5 bytes) f e in
    let n = number_is 5 bytes a.found fits a.is in
    let less : base + a.found.number - base ≡ a.found.number = omega arith in
    subst (IsShort base bytes) a.same (record {
      least = omega arith;
      below = a.below;
      spelled = n.spelled ∙ ap (λ m. short_bytes 5 m ++ a.found.rest) (sym less);
      rest = n.rest;
    })

-- a number is seen by its own bytes
pub short_long : (base : ℕ) (held more : List ℕ) → 5 ≤ length held → short_at base (held ++ more) ≡ number_before more (short_at base held)
unfolding short_at
short_long base held more long = ap (added base) (from_long 5 held more long) ∙ added_long base (short_from 5 held) more

pub short_nothing : (base : ℕ) → short_at base [] ≡ None
unfolding short_at
short_nothing base = refl

-- it has a byte, and five at most
pub short_passes : (base : ℕ) (bytes : List ℕ) (f : NumberFront) → short_at base bytes ≡ Some f → (length f.rest < length bytes) × (length bytes ≤ length f.rest + 5)
unfolding short_at
short_passes base bytes f e =
    let a = added_is base (short_from 5 bytes) f e in
    let same : a.found.rest ≡ f.rest = ap (λ (g : NumberFront). g.rest) a.same in
    subst (Passes 5 bytes) same (from_passes 5 bytes a.found a.is)

pub short_few : (n : ℕ) → length (short n) ≤ 5
unfolding short
short_few n = bytes_few 5 n

pub short_some : (n : ℕ) → 1 ≤ length (short n)
unfolding short
short_some n = bytes_some 4 n

-- ---- the name before

-- each of the three is at least what it is counted from
pub record IsFrom (before name : Name) : Type 0 where
  pub split : before.split ≤ name.split
  pub rec : record_base before name.split ≤ name.rec
  pub place : place_base before name.split name.rec ≤ name.place

base_least : (t : Bool) (base n : ℕ) → (t ≡ true → base ≤ n) → cond t base 0 ≤ n
base_least true base n h = h refl
base_least false base n h = omega arith

pub from_least : (before name : Name) → IsAtLeast before name → IsFrom before name
from_least before name (inl split) =
    let other : eqb name.split before.split ≡ false = ne_eqb name.split before.split (λ e. omega (arith, e)) in
    record {
      split = omega arith;
      rec = base_least _ before.rec name.rec (λ e. let s = eqb-true name.split before.split e in absurd (omega arith));
      place = base_least _ before.place name.place (λ e. let s = eqb-true name.split before.split (and_parts _ _ e).0 in absurd (omega arith));
    }
from_least before name (inr (split, inl rec)) =
    record {
      split = omega arith;
      rec = base_least _ before.rec name.rec (λ e. omega arith);
      place = base_least _ before.place name.place (λ e. let r = eqb-true name.rec before.rec (and_parts (eqb name.split before.split) _ e).1 in absurd (omega arith));
    }
from_least before name (inr (split, inr (rec, place))) =
    record {
      split = omega arith;
      rec = base_least _ before.rec name.rec (λ e. omega arith);
      place = base_least _ before.place name.place (λ e. place);
    }

pub least_from : (before name : Name) → IsFrom before name → IsAtLeast before name
least_from before name from =
    elim (cases_order before.split name.split) [
      | inr (inl less) ↦ inl less
      | inr (inr more) ↦ (let s = from.split in absurd (omega arith))
      | inl split ↦ inr (split, in_split split)
    ]
  where
    in_split : before.split ≡ name.split → (before.rec < name.rec) ⊎ ((before.rec ≡ name.rec) × (before.place ≤ name.place))
    in_split split =
        let same : eqb name.split before.split ≡ true = eq-eqb name.split before.split (sym split) in
        let least : before.rec ≤ name.rec = subst (λ t. cond t before.rec 0 ≤ name.rec) same from.rec in
        elim (cases_order before.rec name.rec) [
          | inr (inl less) ↦ inl less
          | inr (inr more) ↦ absurd (omega arith)
          | inl rec ↦ inr (rec, subst (λ t. cond t before.place 0 ≤ name.place) (and_from (eqb name.split before.split) (eqb name.rec before.rec) same (eq-eqb name.rec before.rec (sym rec))) from.place)
        ]

-- ---- a name that is spelled

pub name_again : (before name : Name) (rest : List ℕ) → NameFits name → IsAtLeast before name → short_name_at before (short_name_bytes before name ++ rest) ≡ Some (record { name = name; rest = rest })
unfolding short_name_at short_name_bytes
name_again before name rest fits least =
    let from = from_least before name least in
    let split : List ℕ = short (name.split - before.split) in
    let rec : List ℕ = short (name.rec - record_base before name.split) in
    let place : List ℕ = short (name.place - place_base before name.split name.rec) in
    let cut : ((split ++ rec) ++ place) ++ rest ≡ split ++ (rec ++ (place ++ rest)) = append_assoc (split ++ rec) place rest ∙ append_assoc split rec (place ++ rest) in
    ap (λ w. behind_number (short_at before.split w) (from_record before)) cut
    ∙ (ap (λ o. behind_number o (from_record before)) (short_again before.split name.split (rec ++ (place ++ rest)) from.split fits.split)
    ∙ (ap (λ o. behind_number o (from_place before name.split)) (short_again (record_base before name.split) name.rec (place ++ rest) from.rec fits.rec)
    ∙ ap (λ o. behind_number o (named name.split name.rec)) (short_again (place_base before name.split name.rec) name.place rest from.place fits.place)))

-- three lists, one behind another
some_of : (xs ys zs : List ℕ) → 1 ≤ length xs → 1 ≤ length ((xs ++ ys) ++ zs)
some_of xs ys zs x = omega (arith, length-append xs ys, length-append (xs ++ ys) zs)

pub name_some : (before name : Name) → 1 ≤ length (short_name_bytes before name)
unfolding short_name_bytes
name_some before name = some_of _ _ (short (name.place - place_base before name.split name.rec)) (short_some (name.split - before.split))

-- ---- a name that stands

-- what a number was followed by
record IsBehind (o : Option NumberFront) (next : ℕ → List ℕ → Option NameFront) (f : NameFront) : Type 0 where
  found : NumberFront
  is : o ≡ Some found
  next_is : next found.number found.rest ≡ Some f

behind_is : (o : Option NumberFront) (next : ℕ → List ℕ → Option NameFront) (f : NameFront) → behind_number o next ≡ Some f → IsBehind o next f
behind_is None next f e = absurd (cc e)
behind_is (Some g) next f e = record { found = g; is = refl; next_is = e }

-- its three numbers
pub record HasNumbers (before : Name) (bytes : List ℕ) (f : NameFront) : Type 0 where
  pub split : NumberFront
  pub rec : NumberFront
  pub place : NumberFront
  pub split_is : short_at before.split bytes ≡ Some split
  pub rec_is : short_at (record_base before split.number) split.rest ≡ Some rec
  pub place_is : short_at (place_base before split.number rec.number) rec.rest ≡ Some place
  pub same : record { name = record { split = split.number; rec = rec.number; place = place.number }; rest = place.rest } ≡ f

pub has_numbers : (before : Name) (bytes : List ℕ) (f : NameFront) → short_name_at before bytes ≡ Some f → HasNumbers before bytes f
unfolding short_name_at
has_numbers before bytes f e =
    let s = behind_is (short_at before.split bytes) (from_record before) f e in
    let r = behind_is (short_at (record_base before s.found.number) s.found.rest) (from_place before s.found.number) f s.next_is in
    let p = behind_is (short_at (place_base before s.found.number r.found.number) r.found.rest) (named s.found.number r.found.number) f r.next_is in
    record {
      split = s.found;
      rec = r.found;
      place = p.found;
      split_is = s.is;
      rec_is = r.is;
      place_is = p.is;
      same = cc (p.next_is);
    }

-- what stands is spelled so
pub record IsShortName (before : Name) (bytes : List ℕ) (f : NameFront) : Type 0 where
  pub fits : NameFits f.name
  pub least : IsAtLeast before f.name
  pub spelled : bytes ≡ short_name_bytes before f.name ++ f.rest
  pub rest : AreBytes f.rest

pub is_short_name : (before : Name) (bytes : List ℕ) (f : NameFront) → AreBytes bytes → short_name_at before bytes ≡ Some f → IsShortName before bytes f
unfolding short_name_bytes
is_short_name before bytes f fits e =
    let n = has_numbers before bytes f e in
    let s = is_short before.split bytes n.split fits n.split_is in
    let r = is_short (record_base before n.split.number) n.split.rest n.rec s.rest n.rec_is in
    let p = is_short (place_base before n.split.number n.rec.number) n.rec.rest n.place r.rest n.place_is in
    let name : Name = record { split = n.split.number; rec = n.rec.number; place = n.place.number } in
    let split : List ℕ = short (n.split.number - before.split) in
    let rec : List ℕ = short (n.rec.number - record_base before n.split.number) in
    let place : List ℕ = short (n.place.number - place_base before n.split.number n.rec.number) in
    let glue : split ++ (rec ++ (place ++ n.place.rest)) ≡ ((split ++ rec) ++ place) ++ n.place.rest = sym (append_assoc (split ++ rec) place n.place.rest ∙ append_assoc split rec (place ++ n.place.rest)) in
    subst (IsShortName before bytes) n.same (record {
      fits = record { split = s.below; rec = r.below; place = p.below };
      least = least_from before name (record { split = s.least; rec = r.least; place = p.least });
      spelled = s.spelled ∙ (ap (λ w. split ++ w) r.spelled ∙ (ap (λ w. split ++ (rec ++ w)) p.spelled ∙ glue));
      rest = p.rest;
    })

-- it has a byte, and fifteen at most
pub name_passes : (before : Name) (bytes : List ℕ) (f : NameFront) → short_name_at before bytes ≡ Some f → (length f.rest < length bytes) × (length bytes ≤ length f.rest + 15)
name_passes before bytes f e =
    let n = has_numbers before bytes f e in
    let s = short_passes before.split bytes n.split n.split_is in
    let r = short_passes (record_base before n.split.number) n.split.rest n.rec n.rec_is in
    let p = short_passes (place_base before n.split.number n.rec.number) n.rec.rest n.place n.place_is in
    let same : n.place.rest ≡ f.rest = ap (λ (g : NameFront). g.rest) n.same in
    subst (λ w. (length w < length bytes) × (length bytes ≤ length w + 15)) same (omega (arith, s.0, r.0, p.0), omega (arith, s.1, r.1, p.1))

-- ---- what stands in front of more bytes

abbrev pub name_before : List ℕ → Option NameFront → Option NameFront
name_before more None = None
name_before more (Some f) = Some (record { name = f.name; rest = f.rest ++ more })

behind_long : (o : Option NumberFront) (next : ℕ → List ℕ → Option NameFront) (more : List ℕ)
    → ((g : NumberFront) → o ≡ Some g → next g.number (g.rest ++ more) ≡ name_before more (next g.number g.rest))
    → behind_number (number_before more o) next ≡ name_before more (behind_number o next)
behind_long None next more h = refl
behind_long (Some g) next more h = h g refl

place_long : (before : Name) (split rec : ℕ) (held more : List ℕ) → 5 ≤ length held → from_place before split rec (held ++ more) ≡ name_before more (from_place before split rec held)
place_long before split rec held more long =
    let base : ℕ = place_base before split rec in
    ap (λ o. behind_number o (named split rec)) (short_long base held more long) ∙ behind_long (short_at base held) (named split rec) more (λ g is. refl)

record_long : (before : Name) (split : ℕ) (held more : List ℕ) → 10 ≤ length held → from_record before split (held ++ more) ≡ name_before more (from_record before split held)
record_long before split held more long =
    let base : ℕ = record_base before split in
    ap (λ o. behind_number o (from_place before split)) (short_long base held more (omega arith))
    ∙ behind_long (short_at base held) (from_place before split) more (λ g is. let p = short_passes base held g is in place_long before split g.number g.rest more (omega (arith, p.1)))

-- a name is seen by its own bytes: the same stands in front of more, where these are as many as the longest has
pub name_long : (before : Name) (held more : List ℕ) → 15 ≤ length held → short_name_at before (held ++ more) ≡ name_before more (short_name_at before held)
unfolding short_name_at
name_long before held more long =
    ap (λ o. behind_number o (from_record before)) (short_long before.split held more (omega arith))
    ∙ behind_long (short_at before.split held) (from_record before) more (λ g is. let p = short_passes before.split held g is in record_long before g.number g.rest more (omega (arith, p.1)))

-- ---- a number that is read byte by byte

-- the number of the bytes so far, which count as low, and of those behind, which count so many times as much
abbrev pub carried : ℕ → ℕ → Option NumberFront → Option NumberFront
carried low scale None = None
carried low scale (Some f) = cond (eqb f.number 0) None (Some (record { number = low + scale * f.number; rest = f.rest }))

-- the seven lower bits of a byte that isn't the last
high_byte : (b : ℕ) → 128 ≤ b → b < 256 → b % 128 ≡ b - 128
high_byte b high byte = omega arith

pub carried_first : (b : ℕ) (o : Option NumberFront) → 128 ≤ b → b < 256 → with_lowest b o ≡ carried (b - 128) 128 o
carried_first b None high byte = refl
carried_first b (Some f) high byte = ap (λ m. cond {A = Option NumberFront} (eqb f.number 0) None (Number (m + 128 * f.number) f.rest)) (high_byte b high byte)

sum_more : (low scale b n : ℕ) → low + scale * (b + 128 * n) ≡ low + scale * b + scale * 128 * n
sum_more low scale b n = grind arith

pub carried_more : (low scale b : ℕ) (o : Option NumberFront) → 128 ≤ b → b < 256 → carried low scale (with_lowest b o) ≡ carried (low + scale * (b - 128)) (scale * 128) o
carried_more low scale b None high byte = refl
carried_more low scale b (Some f) high byte =
    ap (λ m. carried low scale (cond {A = Option NumberFront} (eqb f.number 0) None (Number (m + 128 * f.number) f.rest))) (high_byte b high byte) ∙ by (eqb f.number 0) refl
  where
    by : (t : Bool) → eqb f.number 0 ≡ t → carried low scale (cond {A = Option NumberFront} t None (Number ((b - 128) + 128 * f.number) f.rest)) ≡ cond {A = Option NumberFront} t None (Number (low + scale * (b - 128) + scale * 128 * f.number) f.rest)
    by true e = refl
    by false e =
        let some : f.number ≡ 0 → ⊥ = eqb-false f.number 0 e in
        let not_zero : eqb ((b - 128) + 128 * f.number) 0 ≡ false = ne_eqb ((b - 128) + 128 * f.number) 0 (λ z. some (omega arith)) in
        ap (λ t. cond {A = Option NumberFront} t None (Number (low + scale * ((b - 128) + 128 * f.number)) f.rest)) not_zero ∙ ap (λ m. Number m f.rest) (sum_more low scale (b - 128) f.number)

-- so many bytes were read behind the first
pub record IsReading (first low scale i : ℕ) (bytes rest : List ℕ) : Type 0 where
  pub room : ℕ
  pub left : room + i ≡ 4
  pub below : low < scale
  pub size : scale * capacity room ≡ 34359738368
  pub shorter : length rest ≤ length bytes
  pub read : with_lowest first (short_from 4 bytes) ≡ carried low scale (short_from room rest)

pub reading_first : (first : ℕ) (bytes : List ℕ) → 128 ≤ first → first < 256 → IsReading first (first - 128) 128 0 bytes bytes
reading_first first bytes high byte = record { room = 4; left = refl; below = omega arith; size = refl; shorter = omega arith; read = carried_first first (short_from 4 bytes) high byte }

size_of : (scale room : ℕ) → scale * capacity room ≡ 34359738368 → scale ≤ 34359738368
size_of scale room e = let fit = mul-le scale 1 scale (capacity room) (omega arith) (some_capacity room) in omega (arith, fit, e)

size_more : (scale n : ℕ) → scale * 128 * n ≡ scale * (128 * n)
size_more scale n = grind arith

low_more : (low scale b : ℕ) → low < scale → b < 128 → low + scale * b < scale * 128
low_more low scale b below byte = let fit = mul-le scale (b + 1) scale 128 (omega arith) (omega arith) in let more : scale * (b + 1) ≡ scale * b + scale = grind arith in omega (arith, fit, more)

-- one more, behind which others come
pub reading_next : (first low scale i b : ℕ) (bytes rest behind : List ℕ) → IsReading first low scale i bytes rest → i < 4 → rest ≡ b ∷ behind → 128 ≤ b → b < 256
    → IsReading first (low + scale * (b - 128)) (scale * 128) (i + 1) bytes behind
reading_next first low scale i b bytes rest behind r few is high byte = by r.room r.left r.size r.read
  where
    by : (room : ℕ) → room + i ≡ 4 → scale * capacity room ≡ 34359738368 → with_lowest first (short_from 4 bytes) ≡ carried low scale (short_from room rest)
        → IsReading first (low + scale * (b - 128)) (scale * 128) (i + 1) bytes behind
    by zero left size read = absurd (omega arith)
    by (suc room) left size read = record {
      room = room;
      left = omega arith;
      below = low_more low scale (b - 128) r.below (omega arith);
      size = size_more scale (capacity room) ∙ size;
      shorter = omega (arith, ap length is, r.shorter);
      read = read ∙ (ap (λ w. carried low scale (short_from (suc room) w)) is
          ∙ (ap (λ t. carried low scale (cond {A = Option NumberFront} t (Number b behind) (with_lowest b (short_from room behind)))) (le-ltb b 128 high)
          ∙ carried_more low scale b (short_from room behind) high byte));
    }

-- the last
pub reading_last : (first low scale i b : ℕ) (bytes rest behind : List ℕ) → IsReading first low scale i bytes rest → i < 4 → rest ≡ b ∷ behind → b < 128
    → with_lowest first (short_from 4 bytes) ≡ cond (eqb b 0) None (Some (record { number = low + scale * b; rest = behind }))
reading_last first low scale i b bytes rest behind r few is low_byte = by r.room r.left r.read
  where
    by : (room : ℕ) → room + i ≡ 4 → with_lowest first (short_from 4 bytes) ≡ carried low scale (short_from room rest)
        → with_lowest first (short_from 4 bytes) ≡ cond (eqb b 0) None (Some (record { number = low + scale * b; rest = behind }))
    by zero left read = absurd (omega arith)
    by (suc room) left read =
        read ∙ (ap (λ w. carried low scale (short_from (suc room) w)) is
        ∙ ap (λ t. carried low scale (cond {A = Option NumberFront} t (Number b behind) (with_lowest b (short_from room behind)))) (lt-ltb b 128 low_byte))

-- the bytes end before
pub reading_nothing : (first low scale i : ℕ) (bytes rest : List ℕ) → IsReading first low scale i bytes rest → length rest ≡ 0 → with_lowest first (short_from 4 bytes) ≡ None
reading_nothing first low scale i bytes rest r none = r.read ∙ by r.room rest none
  where
    by : (room : ℕ) (left : List ℕ) → length left ≡ 0 → carried low scale (short_from room left) ≡ None
    by room (b ∷ left) e = absurd (omega arith)
    by zero [] e = refl
    by (suc room) [] e = refl

-- there are too many
pub reading_over : (first low scale i : ℕ) (bytes rest : List ℕ) → IsReading first low scale i bytes rest → 4 ≤ i → with_lowest first (short_from 4 bytes) ≡ None
reading_over first low scale i bytes rest r many = by r.room r.left r.read
  where
    by : (room : ℕ) → room + i ≡ 4 → with_lowest first (short_from 4 bytes) ≡ carried low scale (short_from room rest) → with_lowest first (short_from 4 bytes) ≡ None
    by zero left read = read
    by (suc room) left read = absurd (omega arith)

-- a byte more is far below 2^64
pub reading_fits : (first low scale i b : ℕ) (bytes rest : List ℕ) → IsReading first low scale i bytes rest → b ≤ 128 → low + scale * b < 8796093022208
reading_fits first low scale i b bytes rest r byte =
    let size = size_of scale r.room r.size in
    omega (arith, r.below, size, mul-le scale b 34359738368 128 size byte)

-- ---- what a number's first byte says

pub short_one : (base b : ℕ) (bytes rest : List ℕ) → bytes ≡ b ∷ rest → b < 128 → short_at base bytes ≡ cond (ltb (base + b) (2 ^ 32)) (Some (record { number = base + b; rest = rest })) None
unfolding short_at
short_one base b bytes rest is low =
    ap (λ w. added base (short_from 5 w)) is ∙ ap (λ t. added base (cond {A = Option NumberFront} t (Number b rest) (with_lowest b (short_from 4 rest)))) (lt-ltb b 128 low)

pub short_more : (base b : ℕ) (bytes rest : List ℕ) → bytes ≡ b ∷ rest → 128 ≤ b → short_at base bytes ≡ added base (with_lowest b (short_from 4 rest))
unfolding short_at
short_more base b bytes rest is high =
    ap (λ w. added base (short_from 5 w)) is ∙ ap (λ t. added base (cond {A = Option NumberFront} t (Number b rest) (with_lowest b (short_from 4 rest)))) (le-ltb b 128 high)

pub short_none : (base : ℕ) (bytes : List ℕ) → length bytes ≡ 0 → short_at base bytes ≡ None
short_none base [] e = short_nothing base
short_none base (b ∷ bytes) e = absurd (omega arith)

-- ---- what the numbers of a name say

pub no_split : (before : Name) (bytes : List ℕ) → short_at before.split bytes ≡ None → short_name_at before bytes ≡ None
unfolding short_name_at
no_split before bytes split = ap (λ o. behind_number o (from_record before)) split

pub no_record : (before : Name) (bytes next : List ℕ) (split : ℕ) → short_at before.split bytes ≡ Some (record { number = split; rest = next }) → short_at (record_base before split) next ≡ None → short_name_at before bytes ≡ None
unfolding short_name_at
no_record before bytes next split is rec = ap (λ o. behind_number o (from_record before)) is ∙ ap (λ o. behind_number o (from_place before split)) rec

pub with_record : (before : Name) (bytes next last : List ℕ) (split rec : ℕ) → short_at before.split bytes ≡ Some (record { number = split; rest = next })
    → short_at (record_base before split) next ≡ Some (record { number = rec; rest = last }) → short_name_at before bytes ≡ from_place before split rec last
unfolding short_name_at
with_record before bytes next last split rec is rec_is = ap (λ o. behind_number o (from_record before)) is ∙ ap (λ o. behind_number o (from_place before split)) rec_is

-- ---- a number that is written byte by byte

-- what is left of the number, behind the bytes so far
pub record IsWriting (n left : ℕ) (start out : List ℕ) : Type 0 where
  pub more : ℕ
  pub below : left < capacity (suc more)
  pub room : length out + more ≤ 14
  pub written : out ++ short_bytes (suc more) left ≡ start ++ short n

pub writing_first : (n : ℕ) (start : List ℕ) → n < 2 ^ 32 → length start ≤ 10 → IsWriting n n start start
unfolding short
writing_first n start below room = record { more = 4; below = omega arith; room = omega arith; written = refl }

one_behind : (xs : List ℕ) (b : ℕ) (ys : List ℕ) → (xs ++ b ∷ []) ++ ys ≡ xs ++ (b ∷ ys)
one_behind xs b ys = append_assoc xs (b ∷ []) ys

pub writing_next : (n left b next : ℕ) (start out new : List ℕ) → IsWriting n left start out → 128 ≤ left → b ≡ 128 + left % 128 → next ≡ left / 128 → new ≡ out ++ b ∷ [] → IsWriting n next start new
writing_next n left b next start out new w high b_is next_is new_is = by w.more w.below w.room w.written
  where
    by : (more : ℕ) → left < capacity (suc more) → length out + more ≤ 14 → out ++ short_bytes (suc more) left ≡ start ++ short n → IsWriting n next start new
    by zero below room written = absurd (omega arith)
    by (suc more) below room written = record {
      more = more;
      below = omega arith;
      room = omega (arith, ap length new_is, length-append out (b ∷ []));
      written =
          ap (λ w. w ++ short_bytes (suc more) next) new_is
          ∙ (one_behind out b (short_bytes (suc more) next)
          ∙ (ap (λ d. out ++ (d ∷ short_bytes (suc more) next)) b_is
          ∙ (ap (λ d. out ++ ((128 + left % 128) ∷ short_bytes (suc more) d)) next_is
          ∙ (ap (λ t. out ++ cond {A = List ℕ} t (left ∷ []) ((128 + left % 128) ∷ short_bytes (suc more) (left / 128))) (sym (le-ltb left 128 high))
          ∙ written))));
    }

pub writing_last : (n left b : ℕ) (start out new : List ℕ) → IsWriting n left start out → left < 128 → b ≡ left → new ≡ out ++ b ∷ [] → new ≡ start ++ short n
writing_last n left b start out new w low b_is new_is =
    new_is ∙ (ap (λ d. out ++ (d ∷ [])) b_is
    ∙ (ap (λ t. out ++ cond {A = List ℕ} t (left ∷ []) ((128 + left % 128) ∷ short_bytes w.more (left / 128))) (sym (lt-ltb left 128 low))
    ∙ w.written))

-- a number takes five bytes at most
pub number_room : (xs ys : List ℕ) (n k : ℕ) → ys ≡ xs ++ short n → length xs ≤ k → length ys ≤ k + 5
number_room xs ys n k is few = omega (arith, ap length is, length-append xs (short n), short_few n)

-- three numbers, one behind another, from what each is counted
pub name_written : (before name : Name) (first second third : List ℕ) (rec place : ℕ) → first ≡ short (name.split - before.split) → second ≡ first ++ short (name.rec - rec) → third ≡ second ++ short (name.place - place)
    → rec ≡ record_base before name.split → place ≡ place_base before name.split name.rec → third ≡ short_name_bytes before name
unfolding short_name_bytes
name_written before name first second third rec place first_is second_is third_is rec_is place_is =
    third_is
    ∙ (ap (λ w. w ++ short (name.place - place)) (second_is ∙ ap (λ w. w ++ short (name.rec - rec)) first_is)
    ∙ (ap (λ r. (short (name.split - before.split) ++ short (name.rec - r)) ++ short (name.place - place)) rec_is
    ∙ ap (λ p. (short (name.split - before.split) ++ short (name.rec - record_base before name.split)) ++ short (name.place - p)) place_is))

-- ---- the order of the input

abbrev Ranked : Ordering → ℕ → ℕ → Type 0
Ranked o x y = MatchOrdering o (x < y) (x ≡ y) (y < x)

least_ranked : (before name : Name) (s r p : Ordering) → Ranked s before.split name.split → Ranked r before.rec name.rec → Ranked p before.place name.place
    → (ordering_then s (ordering_then r p) ≡ Greater → ⊥) → IsAtLeast before name
least_ranked before name Less r p split rec place up = inl split
least_ranked before name Greater r p split rec place up = absurd (up refl)
least_ranked before name Equal Less p split rec place up = inr (split, inl rec)
least_ranked before name Equal Greater p split rec place up = absurd (up refl)
least_ranked before name Equal Equal Less split rec place up = inr (split, inr (rec, omega arith))
least_ranked before name Equal Equal Equal split rec place up = inr (split, inr (rec, omega arith))
least_ranked before name Equal Equal Greater split rec place up = absurd (up refl)

pub least_in_order : (before name : Name) → (name_order before name ≡ Greater → ⊥) → IsAtLeast before name
least_in_order before name up =
    least_ranked before name (nat_cmp before.split name.split) (nat_cmp before.rec name.rec) (nat_cmp before.place name.place)
    (ranked before.split name.split _ refl) (ranked before.rec name.rec _ refl) (ranked before.place name.place _ refl) up
