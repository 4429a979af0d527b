-- The words of a text are those of its parts, where no word runs over the seam; and how they move with their text.
use Rattle.std.proofs.Common.{◌≡◌, ℕ, ◌+◌, ◌-◌, ◌<◌, ◌≤◌, Bool, true, false, cond, eqb, List, [], ◌∷◌, ◌++◌, length, get_or, take, drop, map, refl, sym, ap, ap₂, ◌∙◌, subst, arith, zero, suc, inl, inr, eq-eqb}
use Rattle.std.proofs.lemmas.Bool.{ne_eqb, cases_eq}
use Rattle.std.specs.List.{AllByRecursion}
use Rattle.mr_bytes.specs.Bytes.{is_word_byte}
use Rattle.mr_bytes.specs.Words.{extend, word_spans_from}
use Rattle.mr_bytes.specs.declared.Span.{Span}
use Rattle.mr_bytes.proofs.WordLemmas.{BeginsFrom, word_spans_from-begins, word_spans_from-cons, word_spans_from-nil}

-- ---- two texts of which no word of the first goes on in the second
abbrev pub BeginsOutside : List ℕ → Type 0
BeginsOutside [] = Unit {0}
BeginsOutside (y ∷ ys) = is_word_byte y ≡ false

abbrev pub AreApart : List ℕ → List ℕ → Type 0
AreApart [] ys = Unit {0}
AreApart (x ∷ []) ys = is_word_byte x ≡ true → BeginsOutside ys
AreApart (x ∷ y ∷ xs) ys = AreApart (y ∷ xs) ys

begins-lower : (low at : ℕ) (ws : List Span) → low ≤ at → BeginsFrom at ws → BeginsFrom low ws
begins-lower low at [] h b = tt
begins-lower low at (w ∷ ws) h b = omega (arith, h, b)

begins-past : (at : ℕ) (ys : List ℕ) → BeginsOutside ys → BeginsFrom (at + 1) (word_spans_from at ys)
begins-past at [] h = subst (BeginsFrom (at + 1)) (sym (word_spans_from-nil at)) tt
begins-past at (y ∷ ys) h =
    let rest : List Span = word_spans_from (at + 1) ys in
    subst (BeginsFrom (at + 1)) (sym (word_spans_from-cons at y ys ∙ ap (λ t. cond t (extend at rest) rest) h)) (word_spans_from-begins (at + 1) ys)

extend-append : (at : ℕ) (xs ys : List Span) → BeginsFrom (at + 2) ys → extend at (xs ++ ys) ≡ extend at xs ++ ys
unfolding extend
extend-append at [] [] h = refl
extend-append at [] (w ∷ ws) h =
    let apart : eqb w.start (at + 1) ≡ false = ne_eqb w.start (at + 1) (λ e. omega (arith, h, e)) in
    ap (λ t. cond t (record { start = at; end = w.end } ∷ ws) (record { start = at; end = at + 1 } ∷ w ∷ ws)) apart
extend-append at (x ∷ xs) ys h =
    elim (eqb x.start (at + 1)) as (λ t. cond t (record { start = at; end = x.end } ∷ (xs ++ ys)) (record { start = at; end = at + 1 } ∷ x ∷ (xs ++ ys)) ≡ cond t (record { start = at; end = x.end } ∷ xs) (record { start = at; end = at + 1 } ∷ x ∷ xs) ++ ys) [
      | true ↦ refl
      | false ↦ refl
    ]

cond-append : (t : Bool) (at : ℕ) (xs ys : List Span) → (t ≡ true → BeginsFrom (at + 2) ys) → cond t (extend at (xs ++ ys)) (xs ++ ys) ≡ cond t (extend at xs) xs ++ ys
cond-append true at xs ys h = extend-append at xs ys (h refl)
cond-append false at xs ys h = refl

one-more : (at x : ℕ) (xs ys : List ℕ) → word_spans_from (at + 1) (xs ++ ys) ≡ word_spans_from (at + 1) xs ++ word_spans_from (at + 1 + length xs) ys
    → (is_word_byte x ≡ true → BeginsFrom (at + 2) (word_spans_from (at + 1 + length xs) ys))
    → word_spans_from at (x ∷ (xs ++ ys)) ≡ word_spans_from at (x ∷ xs) ++ word_spans_from (at + length (x ∷ xs)) ys
one-more at x xs ys later past =
    let front : List Span = word_spans_from (at + 1) xs in
    let place : at + 1 + length xs ≡ at + length (x ∷ xs) = omega arith in
    word_spans_from-cons at x (xs ++ ys)
    ∙ ap (λ ws. cond (is_word_byte x) (extend at ws) ws) later
    ∙ cond-append (is_word_byte x) at front (word_spans_from (at + 1 + length xs) ys) past
    ∙ ap₂ (λ ws n. ws ++ word_spans_from n ys) (sym (word_spans_from-cons at x xs)) place

pub words-apart : (at : ℕ) (xs ys : List ℕ) → AreApart xs ys → word_spans_from at (xs ++ ys) ≡ word_spans_from at xs ++ word_spans_from (at + length xs) ys
words-apart at [] ys h =
    ap (λ n. word_spans_from n ys) (let e : at ≡ at + length {A = ℕ} [] = omega arith in e)
    ∙ ap (λ (ws : List Span). ws ++ word_spans_from (at + length {A = ℕ} []) ys) (sym (word_spans_from-nil at))
words-apart at (x ∷ []) ys h =
    one-more at x [] ys (words-apart (at + 1) [] ys tt)
    (λ word. begins-lower (at + 2) (at + 1 + length {A = ℕ} [] + 1) (word_spans_from (at + 1 + length {A = ℕ} []) ys) (omega arith) (begins-past (at + 1 + length {A = ℕ} []) ys (h word)))
words-apart at (x ∷ y ∷ xs) ys h =
    one-more at x (y ∷ xs) ys (words-apart (at + 1) (y ∷ xs) ys h)
    (λ word. begins-lower (at + 2) (at + 1 + length (y ∷ xs)) (word_spans_from (at + 1 + length (y ∷ xs)) ys) (omega arith) (word_spans_from-begins (at + 1 + length (y ∷ xs)) ys))

-- a text cut at a place is so
pub apart-at : (text : List ℕ) (at : ℕ) → (0 < at → at < length text → is_word_byte (get_or text (at - 1) 0) ≡ true → is_word_byte (get_or text at 0) ≡ false) → AreApart (take at text) (drop at text)
apart-at text zero h = tt
apart-at [] (suc at) h = tt
apart-at (x ∷ []) (suc zero) h = λ word. tt
apart-at (x ∷ y ∷ ys) (suc zero) h = λ word. h (omega arith) (omega arith) word
apart-at (x ∷ []) (suc (suc at)) h = λ word. tt
apart-at (x ∷ y ∷ ys) (suc (suc at)) h =
    apart-at (y ∷ ys) (suc at)
    (λ some less word.
    h (omega arith) (omega (arith, less))
    (ap (λ n. is_word_byte (get_or (x ∷ y ∷ ys) n 0)) (let e : suc (suc at) - 1 ≡ suc (suc at - 1) = omega arith in e) ∙ word))

-- ---- where words stand
abbrev pub IsInside : ℕ → ℕ → Span → Type 0
IsInside at end w = (at ≤ w.start) × (w.start < w.end) × (w.end ≤ end)

inside-lower : (low at end : ℕ) (ws : List Span) → low ≤ at → AllByRecursion (IsInside at end) ws → AllByRecursion (IsInside low end) ws
inside-lower low at end [] h all = tt
inside-lower low at end (w ∷ ws) h all = ((omega (arith, h, all.0.0), all.0.1, all.0.2), inside-lower low at end ws h all.1)

inside-extend : (at end : ℕ) (ws : List Span) → at + 1 ≤ end → AllByRecursion (IsInside (at + 1) end) ws → AllByRecursion (IsInside at end) (extend at ws)
unfolding extend
inside-extend at end [] h all = ((omega arith, omega arith, h), tt)
inside-extend at end (w ∷ ws) h all =
    let later = inside-lower at (at + 1) end ws (omega arith) all.1 in
    elim (eqb w.start (at + 1)) as (λ t. AllByRecursion (IsInside at end) (cond t (record { start = at; end = w.end } ∷ ws) (record { start = at; end = at + 1 } ∷ w ∷ ws))) [
      | true ↦ ((omega arith, omega (arith, all.0.0, all.0.1), all.0.2), later)
      | false ↦ ((omega arith, omega arith, h), ((omega (arith, all.0.0), all.0.1, all.0.2), later))
    ]

pub words-within : (at end : ℕ) (bs : List ℕ) → at + length bs ≡ end → AllByRecursion (IsInside at end) (word_spans_from at bs)
words-within at end [] e = subst (λ (ws : List Span). AllByRecursion (IsInside at end) ws) (sym (word_spans_from-nil at)) tt
words-within at end (b ∷ bs) e =
    let rest : List Span = word_spans_from (at + 1) bs in
    let later : AllByRecursion (IsInside (at + 1) end) rest = words-within (at + 1) end bs (omega (arith, e)) in
    subst (λ (ws : List Span). AllByRecursion (IsInside at end) ws) (sym (word_spans_from-cons at b bs))
    (elim (is_word_byte b) as (λ t. AllByRecursion (IsInside at end) (cond t (extend at rest) rest)) [
      | true ↦ inside-extend at end rest (omega (arith, e)) later
      | false ↦ inside-lower at (at + 1) end rest (omega arith) later
    ])

pub words-inside : (at : ℕ) (bs : List ℕ) → AllByRecursion (IsInside at (at + length bs)) (word_spans_from at bs)
words-inside at bs = words-within at (at + length bs) bs refl

-- ---- words move with their text
abbrev pub shifted : ℕ → Span → Span
shifted d w = record { start = d + w.start; end = d + w.end }

eqb-shift : (d a b : ℕ) → eqb (d + a) (d + b) ≡ eqb a b
eqb-shift d a b =
    elim (cases_eq a b) [
      | inl same ↦ eq-eqb (d + a) (d + b) (ap (λ n. d + n) same) ∙ sym (eq-eqb a b same)
      | inr other ↦ ne_eqb (d + a) (d + b) (λ e. other (omega (arith, e))) ∙ sym (ne_eqb a b other)
    ]

extend-shift : (d at : ℕ) (ws : List Span) → extend (d + at) (map (shifted d) ws) ≡ map (shifted d) (extend at ws)
unfolding extend
extend-shift d at [] = ap (λ n. record { start = d + at; end = n } ∷ []) (let e : d + at + 1 ≡ d + (at + 1) = omega arith in e)
extend-shift d at (w ∷ ws) =
    let rest : List Span = map (shifted d) ws in
    let next : d + at + 1 ≡ d + (at + 1) = omega arith in
    let test : eqb (d + w.start) (d + at + 1) ≡ eqb w.start (at + 1) = ap (eqb (d + w.start)) next ∙ eqb-shift d w.start (at + 1) in
    ap₂ (λ t n. cond t (record { start = d + at; end = d + w.end } ∷ rest) (record { start = d + at; end = n } ∷ shifted d w ∷ rest)) test next
    ∙ elim (eqb w.start (at + 1)) as (λ t. cond t (record { start = d + at; end = d + w.end } ∷ rest) (record { start = d + at; end = d + (at + 1) } ∷ shifted d w ∷ rest) ≡ map (shifted d) (cond t (record { start = at; end = w.end } ∷ ws) (record { start = at; end = at + 1 } ∷ w ∷ ws))) [
      | true ↦ refl
      | false ↦ refl
    ]

pub words-shift : (d at : ℕ) (bs : List ℕ) → word_spans_from (d + at) bs ≡ map (shifted d) (word_spans_from at bs)
words-shift d at [] = word_spans_from-nil (d + at) ∙ ap (map (shifted d)) (sym (word_spans_from-nil at))
words-shift d at (b ∷ bs) =
    let rest : List Span = word_spans_from (at + 1) bs in
    let later : word_spans_from (d + at + 1) bs ≡ map (shifted d) rest =
    ap (λ n. word_spans_from n bs) (let e : d + at + 1 ≡ d + (at + 1) = omega arith in e) ∙ words-shift d (at + 1) bs in
    word_spans_from-cons (d + at) b bs
    ∙ ap (λ ws. cond (is_word_byte b) (extend (d + at) ws) ws) later
    ∙ elim (is_word_byte b) as (λ t. cond t (extend (d + at) (map (shifted d) rest)) (map (shifted d) rest) ≡ map (shifted d) (cond t (extend at rest) rest)) [
      | true ↦ extend-shift d at rest
      | false ↦ refl
    ]
    ∙ ap (map (shifted d)) (sym (word_spans_from-cons at b bs))
