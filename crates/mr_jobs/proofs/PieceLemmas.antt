-- The words of a line among those of a piece.
use Rattle.std.proofs.Common.{◌≡◌, ℕ, ◌+◌, ◌-◌, ◌<◌, ◌≤◌, Bool, true, false, List, [], ◌∷◌, ◌++◌, All, length, get_or, take, drop, map, slice_range, refl, sym, ap, ap₂, ◌∙◌, subst, arith, inl, inr, length-append, append_assoc}
use Rattle.std.specs.List.{AllByRecursion}
use Rattle.std.proofs.lemmas.Bool.{cases_lt}
use Rattle.std.proofs.lemmas.List.{take-append-drop, take-take, drop-drop, drop-take, drop-map, take-map, length-map, length-take, length-drop, get_or-drop, get_or-map, get_or_append_left, get_or-take}
use Rattle.std.proofs.lemmas.List.Elements.{All-from_recursion}
use Rattle.std.proofs.Math.Seq.{get_or-append_right, take-append_seam, drop-append_seam}
use Rattle.mr_bytes.specs.Bytes.{is_word_byte, fold_byte}
use Rattle.mr_bytes.specs.Words.{word_spans, word_spans_from, span_bytes}
use Rattle.mr_bytes.specs.declared.Span.{Span}
use Rattle.mr_bytes.specs.declared.Value.{Value}
use Rattle.mr_jobs.specs.Emissions.{words_at, words_from}
use Rattle.mr_jobs.specs.Pieces.{IsCut, IsOf, IsSeam, read_as, start_at}
use Rattle.mr_jobs.proofs.EmitLemmas.{word_byte-folded}
use Rattle.mr_jobs.proofs.SeamLemmas.{AreApart, IsInside, words-apart, apart-at, words-inside, words-within, words-shift, shifted}

-- ---- a cut of a list of words
abbrev nowhere : Span
nowhere = record { start = 0; end = 0 }

-- it stands where the words before the place end
cut-count : (xs ys ws : List Span) (at k : ℕ) → ws ≡ xs ++ ys → AllByRecursion (λ (w : Span). w.start < at) xs → AllByRecursion (λ (w : Span). at ≤ w.start) ys
    → IsCut ws at k → k ≡ length xs
cut-count xs ys ws at k is low high cut =
    let sizes : length ws ≡ length xs + length ys = ap length is ∙ length-append xs ys in
    elim (cases_lt k (length xs)) [
      | inl less ↦
          let here : start_at ws k ≡ (get_or xs k nowhere).start = ap (λ (l : List Span). (get_or l k nowhere).start) is ∙ ap (λ (w : Span). w.start) (get_or_append_left xs ys nowhere k less) in
          let below : (get_or xs k nowhere).start < at = All-from_recursion (λ (w : Span). w.start < at) xs low k nowhere less in
          absurd (omega (arith, cut.behind (omega (arith, less, sizes)), here, below))
      | inr ge ↦ elim (cases_lt (length xs) k) [
        | inl more ↦
            let within : k ≤ length ws = cut.within in
            let inside : k - 1 - length xs < length ys = omega (arith, more, within, sizes) in
            let here : start_at ws (k - 1) ≡ (get_or ys (k - 1 - length xs) nowhere).start =
            ap (λ (l : List Span). (get_or l (k - 1) nowhere).start) is ∙ ap (λ (w : Span). w.start) (get_or-append_right xs ys (k - 1) nowhere (omega (arith, more))) in
            let above : at ≤ (get_or ys (k - 1 - length xs) nowhere).start = All-from_recursion (λ (w : Span). at ≤ w.start) ys high (k - 1 - length xs) nowhere inside in
            absurd (omega (arith, cut.before (omega (arith, more)), here, above))
        | inr le ↦ omega (arith, ge, le)
      ]
    ]

all-before : (at end : ℕ) (ws : List Span) → AllByRecursion (IsInside at end) ws → AllByRecursion (λ (w : Span). w.start < end) ws
all-before at end [] all = tt
all-before at end (w ∷ ws) all = (omega (arith, all.0.1, all.0.2), all-before at end ws all.1)

all-behind : (at end : ℕ) (ws : List Span) → AllByRecursion (IsInside at end) ws → AllByRecursion (λ (w : Span). at ≤ w.start) ws
all-behind at end [] all = tt
all-behind at end (w ∷ ws) all = (all.0.0, all-behind at end ws all.1)

all-of : (text : List ℕ) (at : ℕ) (ws : List Span) → AllByRecursion (IsInside at (length text)) ws → AllByRecursion (IsOf text) ws
all-of text at [] all = tt
all-of text at (w ∷ ws) all = ((omega (arith, all.0.1), all.0.2), all-of text at ws all.1)

pub words-of : (text : List ℕ) → All (IsOf text) (word_spans text)
words-of text = All-from_recursion (IsOf text) (word_spans text) (all-of text 0 (word_spans text) (words-within 0 (length text) text (omega arith)))

both : (P : Span → Type 0) (xs ys : List Span) → AllByRecursion P xs → AllByRecursion P ys → AllByRecursion P (xs ++ ys)
both P [] ys a b = b
both P (x ∷ xs) ys a b = (a.0, both P xs ys a.1 b)

lower : (at end : ℕ) (ws : List Span) → at ≤ end → AllByRecursion (λ (w : Span). w.start < at) ws → AllByRecursion (λ (w : Span). w.start < end) ws
lower at end [] h all = tt
lower at end (w ∷ ws) h all = (omega (arith, h, all.0), lower at end ws h all.1)

raise : (at end : ℕ) (ws : List Span) → at ≤ end → AllByRecursion (λ (w : Span). end ≤ w.start) ws → AllByRecursion (λ (w : Span). at ≤ w.start) ws
raise at end [] h all = tt
raise at end (w ∷ ws) h all = (omega (arith, h, all.0), raise at end ws h all.1)

-- the words of a text, of which those between two cuts are `mid`
middle : (front mid back ws : List Span) (at end first last : ℕ) → at ≤ end → ws ≡ front ++ (mid ++ back)
    → AllByRecursion (λ (w : Span). w.start < at) front → AllByRecursion (IsInside at end) mid → AllByRecursion (λ (w : Span). end ≤ w.start) back
    → IsCut ws at first → IsCut ws end last → slice_range ws first last ≡ mid
middle front mid back ws at end first last order is low inner high cut_first cut_last =
    let first_is : first ≡ length front = cut-count front (mid ++ back) ws at first is low (both (λ (w : Span). at ≤ w.start) mid back (all-behind at end mid inner) (raise at end back order high)) cut_first in
    let last_is : last ≡ length (front ++ mid) =
    cut-count (front ++ mid) back ws end last (is ∙ sym (append_assoc front mid back)) (both (λ (w : Span). w.start < end) front mid (lower at end front order low) (all-before at end mid inner)) high cut_last in
    let size : last - first ≡ length mid = omega (arith, first_is, last_is, length-append front mid) in
    ap (λ (l : List Span). take (last - first) (drop first l)) is
    ∙ ap (λ n. take (last - first) (drop n (front ++ (mid ++ back)))) first_is
    ∙ ap (take (last - first)) (drop-append_seam front (mid ++ back))
    ∙ ap (λ n. take n (mid ++ back)) size
    ∙ take-append_seam mid back

-- ---- the words of a part of a text, between two places that no word runs over
seam-behind : (text : List ℕ) (at end : ℕ) → at ≤ end → IsSeam text end → AreApart (slice_range text at end) (drop (end - at) (drop at text))
seam-behind text at end order seam =
    apart-at (drop at text) (end - at)
    (λ some less word.
    let place : at + (end - at) ≡ end = omega (arith, order) in
    let before : at + (end - at - 1) ≡ end - 1 = omega (arith, order, some) in
    let here : get_or (drop at text) (end - at) 0 ≡ get_or text end 0 = get_or-drop at text (end - at) 0 ∙ ap (λ n. get_or text n 0) place in
    let left : get_or (drop at text) (end - at - 1) 0 ≡ get_or text (end - 1) 0 = get_or-drop at text (end - at - 1) 0 ∙ ap (λ n. get_or text n 0) before in
    ap is_word_byte here ∙ seam (omega (arith, some)) (omega (arith, less, length-drop at text, order, some)) (sym (ap is_word_byte left) ∙ word))

pub line-words : (text : List ℕ) (at end first last : ℕ) → at ≤ end → end ≤ length text → IsSeam text at → IsSeam text end
    → IsCut (word_spans text) at first → IsCut (word_spans text) end last
    → slice_range (word_spans text) first last ≡ word_spans_from at (slice_range text at end)
line-words text at end first last order within seam_at seam_end cut_first cut_last =
    let line : List ℕ = slice_range text at end in
    let front : List Span = word_spans_from 0 (take at text) in
    let mid : List Span = word_spans_from at line in
    let back : List Span = word_spans_from end (drop end text) in
    let size_front : length (take at text) ≡ at = omega (arith, length-take at text, order, within) in
    let size_line : at + length line ≡ end = omega (arith, length-take (end - at) (drop at text), length-drop at text, order, within) in
    let rest : drop (end - at) (drop at text) ≡ drop end text = drop-drop (end - at) at text ∙ ap (λ n. drop n text) (let e : at + (end - at) ≡ end = omega (arith, order) in e) in
    let parts : word_spans_from at (drop at text) ≡ mid ++ back =
    ap (word_spans_from at) (sym (take-append-drop (end - at) (drop at text)))
    ∙ words-apart at line (drop (end - at) (drop at text)) (seam-behind text at end order seam_end)
    ∙ ap₂ (λ n l. mid ++ word_spans_from n l) size_line rest in
    let all : word_spans text ≡ front ++ (mid ++ back) =
    ap (word_spans_from 0) (sym (take-append-drop at text))
    ∙ words-apart 0 (take at text) (drop at text) (apart-at text at seam_at)
    ∙ ap (λ n. front ++ word_spans_from n (drop at text)) (let e : 0 + length (take at text) ≡ at = omega (arith, size_front) in e)
    ∙ ap (λ (l : List Span). front ++ l) parts in
    let low : AllByRecursion (λ (w : Span). w.start < at) front =
    all-before 0 at front (words-within 0 at (take at text) (omega (arith, size_front))) in
    let inner : AllByRecursion (IsInside at end) mid = subst (λ n. AllByRecursion (IsInside at n) mid) size_line (words-inside at line) in
    let high : AllByRecursion (λ (w : Span). end ≤ w.start) back = all-behind end (end + length (drop end text)) back (words-inside end (drop end text)) in
    middle front mid back (word_spans text) at end first last order all low inner high cut_first cut_last

-- ---- their bytes
bytes-shifted : (text : List ℕ) (d n : ℕ) (w : Span) → w.end ≤ n → w.start < w.end → span_bytes text (shifted d w) ≡ span_bytes (slice_range text d (d + n)) w
bytes-shifted text d n w within some =
    let s = w.start in
    let e = w.end in
    let rest : List ℕ = drop d text in
    let whole : d + n - d ≡ n = omega arith in
    let split : n ≡ s + (n - s) = omega (arith, within, some) in
    let size : d + e - (d + s) ≡ e - s = omega arith in
    let left : span_bytes text (shifted d w) ≡ take (e - s) (drop s rest) =
    ap (λ k. take k (drop (d + s) text)) size ∙ ap (take (e - s)) (sym (drop-drop s d text)) in
    let right : span_bytes (slice_range text d (d + n)) w ≡ take (e - s) (drop s rest) =
    ap (λ k. take (e - s) (drop s (take k rest))) (whole ∙ split) ∙ ap (take (e - s)) (drop-take s (n - s) rest) ∙ take-take (e - s) (n - s) (drop s rest) (omega (arith, within)) in
    left ∙ sym right

keys-shifted : (value : Value) (text : List ℕ) (d n : ℕ) (ws : List Span) → AllByRecursion (IsInside 0 n) ws
    → words_at value text (map (shifted d) ws) ≡ words_at value (slice_range text d (d + n)) ws
keys-shifted value text d n [] all = refl
keys-shifted value text d n (w ∷ ws) all =
    ap₂ (λ k l. (k, value) ∷ l) (bytes-shifted text d n w all.0.2 all.0.1) (keys-shifted value text d n ws all.1)

-- the words of a line, by their places in the text
pub line-keys : (value : Value) (text : List ℕ) (at end : ℕ) → at ≤ end → end ≤ length text
    → words_at value text (word_spans_from at (slice_range text at end)) ≡ words_from value (slice_range text at end) 0
line-keys value text at end order within =
    let n : ℕ = end - at in
    let line : List ℕ = slice_range text at end in
    let place : at + n ≡ end = omega (arith, order) in
    let size : length line ≡ n = omega (arith, length-take (end - at) (drop at text), length-drop at text, order, within) in
    let inside : AllByRecursion (IsInside 0 n) (word_spans line) = subst (λ k. AllByRecursion (IsInside 0 k) (word_spans line)) (let e : 0 + length line ≡ n = omega (arith, size) in e) (words-inside 0 line) in
    ap (λ k. words_at value text (word_spans_from k line)) (let e : at ≡ at + 0 = omega arith in e)
    ∙ ap (words_at value text) (words-shift at 0 line)
    ∙ keys-shifted value text at n (word_spans line) inside
    ∙ ap (λ k. words_at value (slice_range text at k) (word_spans line)) place

-- ---- pieces of files
size-read : (folds : Bool) (bytes : List ℕ) → length (read_as folds bytes) ≡ length bytes
size-read true bytes = length-map bytes fold_byte
size-read false bytes = refl

word-read : (folds : Bool) (bytes : List ℕ) (k : ℕ) → k < length bytes → is_word_byte (get_or (read_as folds bytes) k 0) ≡ is_word_byte (get_or bytes k 0)
word-read true bytes k less = ap is_word_byte (get_or-map fold_byte bytes k 0 0 less) ∙ word_byte-folded (get_or bytes k 0)
word-read false bytes k less = refl

-- a byte of a part, as it is read, is a word byte where the byte of the text is
word-of-part : (folds : Bool) (text : List ℕ) (from n k : ℕ) → k < n → from + n ≤ length text
    → is_word_byte (get_or (read_as folds (slice_range text from (from + n))) k 0) ≡ is_word_byte (get_or text (from + k) 0)
word-of-part folds text from n k less within =
    let size : from + n - from ≡ n = omega arith in
    let part : List ℕ = slice_range text from (from + n) in
    let long : k < length part = omega (arith, length-take (from + n - from) (drop from text), length-drop from text, less, within) in
    word-read folds part k long
    ∙ ap is_word_byte (get_or-take (from + n - from) (drop from text) k 0 (omega (arith, size, less)) ∙ get_or-drop from text k 0)

pub seam-of-part : (folds : Bool) (text : List ℕ) (from n k : ℕ) → from + n ≤ length text → IsSeam text (from + k) → IsSeam (read_as folds (slice_range text from (from + n))) k
seam-of-part folds text from n k within seam =
    λ some less word.
    let part : List ℕ = slice_range text from (from + n) in
    let inside : k < n = omega (arith, less, size-read folds part, length-take (from + n - from) (drop from text), length-drop from text, within) in
    let before : from + (k - 1) ≡ from + k - 1 = omega (arith, some) in
    word-of-part folds text from n k inside within
    ∙ seam (omega (arith, some)) (omega (arith, inside, within))
    (ap (λ i. is_word_byte (get_or text i 0)) (sym before) ∙ (sym (word-of-part folds text from n (k - 1) (omega (arith, inside)) within) ∙ word))

slice-of-slice : (text : List ℕ) (from n a b : ℕ) → a ≤ b → b ≤ n → slice_range (slice_range text from (from + n)) a b ≡ slice_range text (from + a) (from + b)
slice-of-slice text from n a b order within =
    let rest : List ℕ = drop from text in
    let whole : from + n - from ≡ a + (n - a) = omega (arith, order, within) in
    let size : b - a ≡ from + b - (from + a) = omega (arith, order) in
    ap (λ k. take (b - a) (drop a (take k rest))) whole
    ∙ ap (take (b - a)) (drop-take a (n - a) rest)
    ∙ take-take (b - a) (n - a) (drop a rest) (omega (arith, within))
    ∙ ap₂ take size (drop-drop a from text)

slice-read : (folds : Bool) (bytes : List ℕ) (a b : ℕ) → slice_range (read_as folds bytes) a b ≡ read_as folds (slice_range bytes a b)
slice-read true bytes a b = ap (take (b - a)) (drop-map fold_byte a bytes) ∙ take-map fold_byte (b - a) (drop a bytes)
slice-read false bytes a b = refl

-- the words of a line of a piece are those of its bytes, as they are read
pub line-of-part : (folds : Bool) (text piece : List ℕ) (from n a b start end : ℕ) (value : Value) → piece ≡ read_as folds (slice_range text from (from + n)) → from + n ≤ length text
    → a ≤ b → b ≤ n → from + a ≡ start → from + b ≡ end
    → words_at value piece (word_spans_from a (slice_range piece a b)) ≡ words_from value (read_as folds (slice_range text start end)) 0
line-of-part folds text piece from n a b start end value is within order inside begin finish =
    let part : List ℕ = slice_range text from (from + n) in
    let size : length piece ≡ n = omega (arith, ap length is, size-read folds part, length-take (from + n - from) (drop from text), length-drop from text, within) in
    let line : slice_range piece a b ≡ read_as folds (slice_range text start end) =
    ap (λ (l : List ℕ). slice_range l a b) is ∙ slice-read folds part a b ∙ ap (read_as folds) (slice-of-slice text from n a b order inside ∙ ap₂ (slice_range text) begin finish) in
    line-keys value piece a b order (omega (arith, size, inside)) ∙ ap (λ (l : List ℕ). words_from value l 0) line
