-- Digits read one by one.
use Rattle.std.proofs.Common.{◌≡◌, ℕ, suc, zero, ◌-◌, ◌+◌, ◌*◌, ◌<◌, ◌≤◌, ◌^◌, List, [], ◌∷◌, ◌++◌, ◌⊎◌, inl, inr, length, get_or, drop, take, ap, sym, subst, refl, ◌∙◌, arith}
use Rattle.std.proofs.lemmas.Fmt.{decimal_digit, decimal-digits_value, decimal_is_IsNumeral, first_decimal}
use Rattle.std.proofs.lemmas.List.{append_assoc, append_cancel_left, append-nil, drop_all, drop_more, get_or-append-add, get_or_append_left, length-append, length-drop, length-take-le, take_all, take_more, take-append-drop}
use Rattle.std.proofs.lemmas.Str.{digit_value_digit}
use Rattle.std.proofs.lemmas.Str.Parse.{digit_at, digit_from_value, numerals_by_value, tells_digits}
use Rattle.std.specs.Char.{digit_value}
use Rattle.std.specs.Prelude.{decimal}
use Rattle.std.specs.Str.Parse.{AllDigits, digits_value, digits_value_after}
use Rattle.mr_shards.specs.Numbers.{BeginsWith, EndsDigits, IsCutBehind, IsWithDigit, NoDigitFits}

-- the bytes before that place are digits, and write the number so far
pub record IsReadSoFar (text : List ℕ) (at value : ℕ) : Type 0 where
  pub within : at ≤ length text
  pub small : value < 2 ^ 64
  pub digits : AllDigits 10 (take at text)
  pub value_is : (more : List ℕ) → digits_value_after 10 value more ≡ digits_value 10 (take at text ++ more)

pub number-none : (text : List ℕ) → IsReadSoFar text 0 0
number-none text = record { within = omega arith; small = omega arith; digits = tt; value_is = λ more. refl }

pub digit-inside : (text : List ℕ) (at value next : ℕ) → IsWithDigit value (drop at text) next → at < length text
digit-inside [] zero value next h = absurd h
digit-inside [] (suc at) value next h = absurd h
digit-inside (b ∷ bs) zero value next h = omega arith
digit-inside (b ∷ bs) (suc at) value next h = omega (arith, digit-inside bs at value next h)

digits-last : (xs : List ℕ) (b : ℕ) → AllDigits 10 xs → digit_value b < 10 → AllDigits 10 (xs ++ b ∷ [])
digits-last [] b all is = (is, tt)
digits-last (x ∷ xs) b all is = (all.0, digits-last xs b all.1 is)

pub number-more : (text : List ℕ) (at value next : ℕ) → next < 2 ^ 64 → IsReadSoFar text at value → IsWithDigit value (drop at text) next → IsReadSoFar text (at + 1) next
number-more text at value next fits k h =
    let less : at < length text = digit-inside text at value next h in
    let b = get_or text at 0 in
    let is = subst (λ l. IsWithDigit value l next) (drop_more text at 0 less) h in
    let taken : take (at + 1) text ≡ take at text ++ b ∷ [] = take_more text at 0 less in
    let v : digit_value b + 48 ≡ b = digit_value_digit b (is.0, is.1) in
    let small : digit_value b < 10 = omega (arith, v, is.1) in
    let same : next ≡ value * 10 + digit_value b = omega (arith, v, is.2) in
    record {
      within = omega (arith, less);
      small = fits;
      digits = subst (AllDigits 10) (sym taken) (digits-last (take at text) b k.digits small);
      value_is = λ more.
          ap (λ n. digits_value_after 10 n more) same ∙ k.value_is (b ∷ more) ∙ ap (digits_value 10) (sym (append_assoc (take at text) (b ∷ []) more))
          ∙ ap (λ l. digits_value 10 (l ++ more)) (sym taken);
    }

-- ---- one reading

grows : (n : ℕ) (ds : List ℕ) → n ≤ digits_value_after 10 n ds
grows n [] = omega arith
grows n (c ∷ cs) = omega (arith, grows (n * 10 + digit_value c) cs)

-- of two fronts of a text one goes on with the other
seam : (xs ys zs ws : List ℕ) → xs ++ ys ≡ zs ++ ws → ((more : List ℕ) × (zs ≡ xs ++ more) × (ys ≡ more ++ ws)) ⊎ ((more : List ℕ) × (xs ≡ zs ++ more) × (ws ≡ more ++ ys))
seam [] ys zs ws e = inl (zs, refl, e)
seam (x ∷ xs) ys [] ws e = inr (x ∷ xs, refl, sym e)
seam (x ∷ xs) ys (z ∷ zs) ws e =
    let first : x ≡ z = cc e in
    let rest : xs ++ ys ≡ zs ++ ws = cc e in
    elim (seam xs ys zs ws rest) [
      | inl w ↦ inl (w.0, (let is = w.1 in let here = sym first in λ i. here i ∷ is i), w.2)
      | inr w ↦ inr (w.0, (let is = w.1 in λ i. first i ∷ is i), w.2)
    ]

digit-behind : (xs ys : List ℕ) (b : ℕ) → AllDigits 10 (xs ++ b ∷ ys) → digit_value b < 10
digit-behind [] ys b all = all.0
digit-behind (x ∷ xs) ys b all = digit-behind xs ys b all.1

value-behind : (n : ℕ) (xs ys : List ℕ) → digits_value_after 10 n (xs ++ ys) ≡ digits_value_after 10 (digits_value_after 10 n xs) ys
value-behind n [] ys = refl
value-behind n (x ∷ xs) ys = value-behind (n * 10 + digit_value x) xs ys

-- digits up to where none fits: a number at the front is written by just these
same-digits : (front tail : List ℕ) (value n : ℕ) (rest more : List ℕ) → AllDigits 10 front → digits_value 10 front ≡ value → NoDigitFits value tail
    → n < 2 ^ 64 → EndsDigits rest → ((tail ≡ more ++ rest) × (decimal n ≡ front ++ more)) ⊎ ((rest ≡ more ++ tail) × (front ≡ decimal n ++ more)) → more ≡ []
same-digits front tail value n rest [] all v stop small ends h = refl
same-digits front tail value n rest (b ∷ bs) all v stop small ends (inl h) =
    let num = decimal_is_IsNumeral n small in
    let digit : digit_value b < 10 = digit-behind front bs b (subst (AllDigits 10) h.1 num.0.1) in
    let k = digit_from_value b digit in
    let large : 2 ^ 64 + 48 ≤ value * 10 + b = subst (NoDigitFits value) h.0 stop k.0 k.1 in
    let d : digit_value b + 48 ≡ b = digit_value_digit b k in
    let is : n ≡ digits_value_after 10 value (b ∷ bs) =
    sym num.1 ∙ ap (digits_value 10) h.1 ∙ value-behind 0 front (b ∷ bs) ∙ ap (λ m. digits_value_after 10 m (b ∷ bs)) v in
    absurd (omega (arith, large, d, is, small, grows (value * 10 + digit_value b) bs))
same-digits front tail value n rest (b ∷ bs) all v stop small ends (inr h) =
    let digit : digit_value b < 10 = digit-behind (decimal n) bs b (subst (AllDigits 10) h.1 all) in
    let k = digit_from_value b digit in
    absurd (subst EndsDigits h.0 ends k.0 k.1)

-- where the digits end, the number that the text begins with is the one that was read
number-read : (text : List ℕ) (at value n : ℕ) (rest : List ℕ) → IsReadSoFar text at value → NoDigitFits value (drop at text) → BeginsWith text n rest
    → (decimal n ≡ take at text) × (rest ≡ drop at text) × (n ≡ value)
number-read text at value n rest k stop b =
    let front = take at text in
    let tail = drop at text in
    let v : digits_value 10 front ≡ value = ap (digits_value 10) (sym (append-nil front)) ∙ sym (k.value_is []) in
    let cut : front ++ tail ≡ decimal n ++ rest = take-append-drop at text ∙ b.is in
    let digits : decimal n ≡ front = elim (seam front tail (decimal n) rest cut) [
      | inl w ↦ w.1 ∙ ap (λ l. front ++ l) (same-digits front tail value n rest w.0 k.digits v stop b.small b.ends (inl (w.2, w.1))) ∙ append-nil front
      | inr w ↦ sym (w.1 ∙ ap (λ l. decimal n ++ l) (same-digits front tail value n rest w.0 k.digits v stop b.small b.ends (inr (w.2, w.1))) ∙ append-nil (decimal n))
    ] in (
      digits,
      append_cancel_left front rest tail (ap (λ l. l ++ rest) (sym digits) ∙ sym cut),
      sym (decimal_is_IsNumeral n b.small).1 ∙ ap (digits_value 10) digits ∙ v,
    )

-- no digit was read
pub none-begins : (text : List ℕ) (at value n : ℕ) (rest : List ℕ) → at ≡ 0 → IsReadSoFar text at value → NoDigitFits value (drop at text) → BeginsWith text n rest → ⊥
none-begins text at value n rest none k stop b =
    let is = number-read text at value n rest k stop b in
    let some : 0 < length (decimal n) = (decimal_is_IsNumeral n b.small).0.0 in
    let no : decimal n ≡ [] = is.0 ∙ ap (λ i. take i text) none in
    omega (arith, some, ap length no)

first-taken : (text : List ℕ) (at : ℕ) → 0 < at → get_or (take at text) 0 0 ≡ get_or text 0 0
first-taken [] zero some = omega (arith, some)
first-taken [] (suc at) some = refl
first-taken (b ∷ bs) zero some = omega (arith, some)
first-taken (b ∷ bs) (suc at) some = refl

-- a zero before other digits
pub zero-begins : (text : List ℕ) (at value n : ℕ) (rest : List ℕ) → 1 < at → get_or text 0 0 ≡ 48 → IsReadSoFar text at value → NoDigitFits value (drop at text) → BeginsWith text n rest → ⊥
zero-begins text at value n rest many first k stop b =
    let is = number-read text at value n rest k stop b in
    let here : get_or (decimal n) 0 0 ≡ 48 = ap (λ l. get_or l 0 0) is.0 ∙ first-taken text at (omega (arith, many)) ∙ first in
    let long : length (decimal n) ≡ at = ap length is.0 ∙ length-take-le at text k.within in
    by n here long b.small
  where
    by : (m : ℕ) → get_or (decimal m) 0 0 ≡ 48 → length (decimal m) ≡ at → m < 2 ^ 64 → ⊥
    by zero h l small = omega (arith, l, many, ap length (decimal_digit 0 (omega arith)))
    by (suc m) h l small = omega (arith, h, first_decimal (suc m) (omega arith) small)

pub number-cut : (text : List ℕ) (at value : ℕ) → 0 < at → (get_or text 0 0 ≡ 48 → at ≡ 1) → IsReadSoFar text at value → NoDigitFits value (drop at text)
    → IsCutBehind text value (drop at text)
number-cut text at value some lead k stop =
    let front = take at text in
    let long : length front ≡ at = length-take-le at text k.within in
    let v : digits_value 10 front ≡ value = ap (digits_value 10) (sym (append-nil front)) ∙ sym (k.value_is []) in
    let written : decimal (digits_value 10 front) ≡ front =
    decimal-digits_value (numerals_by_value (AllDigits 10) tells_digits) front k.digits (omega (arith, long, some)) (λ z. long ∙ lead (sym (first-taken text at some) ∙ z))
    (omega (arith, v, k.small)) in
    record {
      small = k.small;
      is = sym (take-append-drop at text) ∙ ap (λ l. l ++ drop at text) (sym (ap decimal (sym v) ∙ written));
      one = λ m more b. (let is = number-read text at value m more k stop b in (is.2, is.1));
    }

pub behind-cut : (text : List ℕ) (at value : ℕ) → IsCutBehind text value (drop at text) → IsCutBehind text value (take (length text - at) (drop at text))
behind-cut text at value = subst (IsCutBehind text value) (sym (take_all (length text - at) (drop at text) (omega (arith, length-drop at text))))

-- ---- a number that is known

lt_or_le : (a b : ℕ) → (a < b) ⊎ (b ≤ a)
lt_or_le zero zero = inr (omega arith)
lt_or_le zero (suc b) = inl (omega arith)
lt_or_le (suc a) zero = inr (omega arith)
lt_or_le (suc a) (suc b) = elim (lt_or_le a b) [ inl l ↦ inl (omega (arith, l)) | inr l ↦ inr (omega (arith, l)) ]

-- the digits behind that place, read on from the value, give the number
pub record IsReadOn (n at value : ℕ) : Type 0 where
  pub within : at ≤ length (decimal n)
  pub value_is : digits_value_after 10 value (drop at (decimal n)) ≡ n

pub known-none : (n : ℕ) → n < 2 ^ 64 → IsReadOn n 0 0
known-none n small = record { within = omega arith; value_is = (decimal_is_IsNumeral n small).1 }

-- a digit is there, and the number with it is no larger
pub record TakesDigit (text : List ℕ) (n at value : ℕ) : Type 0 where
  pub low : 48 ≤ get_or text at 0
  pub within : value * 10 + get_or text at 0 ≤ n + 48
  pub on : (next : ℕ) → next + 48 ≡ value * 10 + get_or text at 0 → IsReadOn n (at + 1) next

-- so it is where no comma is
pub known-more : (text : List ℕ) (n : ℕ) (rest : List ℕ) (at value : ℕ) → BeginsWith text n rest → (0 < length rest → get_or rest 0 0 ≡ 44) → at < length text → (get_or text at 0 ≡ 44 → ⊥) → IsReadOn n at value
    → TakesDigit text n at value
known-more text n rest at value b comma low other k =
    let ds : List ℕ = decimal n in
    let long : length text ≡ length ds + length rest = ap length b.is ∙ length-append ds rest in
    let inside : at < length ds = elim (lt_or_le at (length ds)) [
      | inl l ↦ l
      | inr past ↦ (
          let at_end : at ≡ length ds + 0 = omega (arith, past, k.within) in
          let first : get_or text at 0 ≡ get_or rest 0 0 = ap (λ l. get_or l at 0) b.is ∙ ap (λ i. get_or (ds ++ rest) i 0) at_end ∙ get_or-append-add ds rest 0 0 in
          absurd (other (first ∙ comma (omega (arith, long, low, at_end)))))
    ] in
    let c = get_or ds at 0 in
    let here : get_or text at 0 ≡ c = ap (λ l. get_or l at 0) b.is ∙ get_or_append_left ds rest 0 at inside in
    let digit = digit_at ds at (decimal_is_IsNumeral n b.small).0.1 inside in
    let v : digit_value c + 48 ≡ c = digit_value_digit c digit in
    let on : digits_value_after 10 (value * 10 + digit_value c) (drop (at + 1) ds) ≡ n = ap (digits_value_after 10 value) (sym (drop_more ds at 0 inside)) ∙ k.value_is in
    record {
      low = omega (arith, here, digit.0);
      within = omega (arith, here, v, on, grows (value * 10 + digit_value c) (drop (at + 1) ds));
      on = λ next e.
          (let same : value * 10 + digit_value c ≡ next = omega (arith, e, here, v) in
          record { within = omega (arith, inside); value_is = ap (λ m. digits_value_after 10 m (drop (at + 1) ds)) (sym same) ∙ on });
    }

-- at a comma or at the end the number is read
pub known-all : (text : List ℕ) (n : ℕ) (rest : List ℕ) (at value : ℕ) → BeginsWith text n rest → IsReadOn n at value → (length text ≤ at) ⊎ (get_or text at 0 ≡ 44) → (value ≡ n) × (at ≡ length (decimal n))
known-all text n rest at value b k end =
    let ds : List ℕ = decimal n in
    let long : length text ≡ length ds + length rest = ap length b.is ∙ length-append ds rest in
    let past : length ds ≤ at = elim (lt_or_le at (length ds)) [
      | inr l ↦ l
      | inl inside ↦ elim end [
        | inl over ↦ omega (arith, over, inside, long)
        | inr comma ↦ (
            let digit = digit_at ds at (decimal_is_IsNumeral n b.small).0.1 inside in
            let here : get_or text at 0 ≡ get_or ds at 0 = ap (λ l. get_or l at 0) b.is ∙ get_or_append_left ds rest 0 at inside in
            omega (arith, here, digit.0, comma))
      ]
    ] in (
      ap (digits_value_after 10 value) (sym (drop_all at ds past)) ∙ k.value_is,
      omega (arith, past, k.within),
    )

-- ---- a text that is a number

pub number-only : (text : List ℕ) (n : ℕ) → n < 2 ^ 64 → text ≡ decimal n → BeginsWith text n []
number-only text n small e = record { is = e ∙ sym (append-nil (decimal n)); small = small; ends = tt }

pub number-all : (text : List ℕ) (n : ℕ) (rest : List ℕ) → IsCutBehind text n rest → length rest ≡ 0 → text ≡ decimal n
number-all text n [] cut none = cut.is ∙ append-nil (decimal n)
number-all text n (b ∷ bs) cut none = absurd (omega (arith, none))

-- ---- two digits and a comma

pub digit-bound : (value : ℕ) (text : List ℕ) (next : ℕ) → IsWithDigit value text next → next ≤ value * 10 + 9
digit-bound value [] next h = absurd h
digit-bound value (b ∷ bs) next h = omega (arith, h.1, h.2)

pub comma-stops : (text : List ℕ) (value : ℕ) → 3 ≤ length text → get_or text 2 0 ≡ 44 → NoDigitFits value (drop 2 text)
comma-stops [] value long comma = absurd (omega (arith, long))
comma-stops (a ∷ []) value long comma = absurd (omega (arith, long))
comma-stops (a ∷ b ∷ []) value long comma = absurd (omega (arith, long))
comma-stops (a ∷ b ∷ c ∷ rest) value long comma = λ low high. omega (arith, low, comma)

pub comma-cut : (text : List ℕ) → 3 ≤ length text → get_or text 2 0 ≡ 44 → drop 2 text ≡ 44 ∷ take (length text - 3) (drop 3 text)
comma-cut [] long comma = absurd (omega (arith, long))
comma-cut (a ∷ []) long comma = absurd (omega (arith, long))
comma-cut (a ∷ b ∷ []) long comma = absurd (omega (arith, long))
comma-cut (a ∷ b ∷ c ∷ rest) long comma =
    let whole = sym (take_all (length (a ∷ b ∷ c ∷ rest) - 3) rest (omega arith)) in
    λ i. comma i ∷ whole i
