-- The lines of a verdict's text, and what they tell.
use Rattle.std.proofs.Common.{◌≡◌, ℕ, suc, ◌/◌, ◌%◌, ◌<◌, ◌^◌, ◌++◌, List, [], ◌∷◌, map, refl, ap, sym, ◌∙◌, arith, Bool, true, false, cond, eqb, None, Some, slice_index, ◌≢◌, ◌⊎◌, inl, inr}
use Rattle.std.specs.Prelude.{codes, decimal}
use Rattle.std.proofs.lemmas.Bool.{eq-eqb, ne_eqb, cases_eq}
use Rattle.std.proofs.lemmas.List.{append_assoc, append-nil}
use Rattle.std.specs.List.{AllByRecursion, flat_map}
use Rattle.std.specs.Str.{bytes_eq}
use Rattle.hex.specs.Hex.{IsBytes, encode_lower, encode_with, hex_digit_value, lower_digits}
use Rattle.hex.proofs.HexLemmas.{IsDigits-lower_digits}
use Rattle.mr_bytes.specs.Cut.{Lacks}
use Rattle.mr_bytes.proofs.CutLemmas.{cut-parts}
use Rattle.mr_shards.proofs.ReadingLemmas.{Lacks-append, decimal-lacks}
use Rattle.mr_shards.specs.Lines.{lines}
use Rattle.mr_shards.specs.RangeNotes.{RangeNote}
use Rattle.mr_shards.specs.Spots.{Spot}
use Rattle.mr_shards.specs.Verdict.{Note, Told, ending, line_of, note_line, note_told, number_line, place_told, range_line, range_told, spelled, spot_line, spot_told}
use Rattle.mr_shards.specs.Reading.{Fits, NoteFits, RangeFits, SpotFits, told_by, told_of, told_under, with_told}
use Rattle.mr_shards.proofs.ReadLemmas.{lines-next, under-end}

-- ---- bytes that are nowhere

pub decimal-space : (n : ℕ) → n < 2 ^ 64 → Lacks 32 (decimal n)
decimal-space n small = decimal-lacks 32 n (λ h. omega (arith, h.0)) small

decimal-line : (n : ℕ) → n < 2 ^ 64 → Lacks 10 (decimal n)
decimal-line n small = decimal-lacks 10 n (λ h. omega (arith, h.0)) small

-- a byte that is no hexadecimal digit
not_digit : (b d : ℕ) → hex_digit_value b ≡ None → d < 16 → slice_index lower_digits d ≢ b
not_digit b d none small e =
    let some : None ≡ Some d = sym none ∙ ap hex_digit_value (sym e) ∙ IsDigits-lower_digits d small in cc some

hex-lacks : (b : ℕ) (xs : List ℕ) → hex_digit_value b ≡ None → IsBytes xs → Lacks b (encode_lower xs)
unfolding encode_with
hex-lacks b [] none bytes = tt
hex-lacks b (x ∷ xs) none bytes =
    let small : x < 256 = bytes 0 in
    (not_digit b (x / 16) none (omega arith), (not_digit b (x % 16) none (omega arith), hex-lacks b xs none (λ i. bytes (suc i))))

pub hex-space : (xs : List ℕ) → IsBytes xs → Lacks 32 (encode_lower xs)
hex-space xs bytes = hex-lacks 32 xs refl bytes

note-line : (n : Note) → NoteFits n → Lacks 10 (note_told n)
note-line n fits =
    Lacks-append 10 (encode_lower n.digest) (32 ∷ (decimal n.length ++ 32 ∷ n.name)) (hex-lacks 10 n.digest refl fits.bytes)
    (λ e. omega (arith, e), Lacks-append 10 (decimal n.length) (32 ∷ n.name) (decimal-line n.length fits.few) (λ e. omega (arith, e), fits.clear))

-- a test that computes
abbrev lacks_in : ℕ → List ℕ → Bool
lacks_in b [] = true
lacks_in b (x ∷ xs) = cond (eqb x b) false (lacks_in b xs)

lacks-test : (b : ℕ) (xs : List ℕ) → lacks_in b xs ≡ true → Lacks b xs
lacks-test b [] e = tt
lacks-test b (x ∷ xs) e = by (cases_eq x b) (lacks-test b xs)
  where
    by : (x ≡ b) ⊎ (x ≢ b) → (lacks_in b xs ≡ true → Lacks b xs) → Lacks b (x ∷ xs)
    by (inl same) rest = (let bad : false ≡ true = sym (ap (λ t. cond t false (lacks_in b xs)) (eq-eqb x b same)) ∙ e in absurd (cc bad))
    by (inr other) rest = (other, rest (sym (ap (λ t. cond t false (lacks_in b xs)) (ne_eqb x b other)) ∙ e))

spot-line : (s : Spot) → SpotFits s → Lacks 10 (spot_told s)
spot-line s fits =
    Lacks-append 10 (decimal s.file) (32 ∷ decimal s.start) (decimal-line s.file (omega (arith, fits.file)))
    (λ e. omega (arith, e), decimal-line s.start fits.start)

-- a byte that stands in no word of an ending
ending-lacks : (b : ℕ) (n : RangeNote) → lacks_in b (codes "more") ≡ true → lacks_in b (codes "end") ≡ true → lacks_in b (codes "open") ≡ true → Lacks b (ending n)
ending-lacks b n more end ajar = by n.ends n.closed
  where
    by : (e c : Bool) → Lacks b (cond e (cond c (codes "end") (codes "open")) (codes "more"))
    by false c = lacks-test b (codes "more") more
    by true true = lacks-test b (codes "end") end
    by true false = lacks-test b (codes "open") ajar

pub ending-space : (n : RangeNote) → Lacks 32 (ending n)
ending-space n = ending-lacks 32 n refl refl refl

place-line : (old : Bool) (n : RangeNote) → RangeFits old n → Lacks 10 (place_told old n)
place-line true n fits = fits.clear
place-line false n fits =
    Lacks-append 10 (decimal n.from) (32 ∷ (ending n ++ 32 ∷ n.name)) (decimal-line n.from fits.near)
    (λ e. omega (arith, e), Lacks-append 10 (ending n) (32 ∷ n.name) (ending-lacks 10 n refl refl refl) (λ e. omega (arith, e), fits.clear))

range-line : (old : Bool) (n : RangeNote) → RangeFits old n → Lacks 10 (range_told old n)
range-line old n fits =
    Lacks-append 10 (encode_lower n.digest) (32 ∷ (decimal n.length ++ 32 ∷ place_told old n)) (hex-lacks 10 n.digest refl fits.bytes)
    (λ e. omega (arith, e), Lacks-append 10 (decimal n.length) (32 ∷ place_told old n) (decimal-line n.length fits.few) (λ e. omega (arith, e), place-line old n fits))

-- ---- what a line tells

told-of : (word u told : List ℕ) → Lacks 32 u → told_of word (u ++ 32 ∷ told) ≡ cond (bytes_eq u word) (Some told) None
told-of word u told clear = ap (told_by word) (cut-parts 32 u told clear)

-- one more line in front
fronted : Bool → List ℕ → List (List ℕ) → List (List ℕ)
fronted b told ts = cond b (told ∷ ts) ts

with-fronted : (b : Bool) (told : List ℕ) (ts : List (List ℕ)) → with_told (cond b (Some told) None) ts ≡ cond b (told ∷ ts) ts
with-fronted true told ts = refl
with-fronted false told ts = refl

-- the line `u told` in front of a text
under-line : (word u told rest : List ℕ) → Lacks 32 u → Lacks 10 u → Lacks 10 told
    → told_under word (lines (line_of u told ++ rest)) ≡ cond (bytes_eq u word) (told ∷ told_under word (lines rest)) (told_under word (lines rest))
unfolding told_under
under-line word u told rest space clear clear' =
    let l : List ℕ = u ++ 32 ∷ told in
    ap (λ (t : List ℕ). told_under word (lines t)) (append_assoc l (10 ∷ []) rest)
    ∙ ap (told_under word) (lines-next l rest (Lacks-append 10 u (32 ∷ told) clear (λ e. omega (arith, e), clear')))
    ∙ ap (λ o. with_told o (told_under word (lines rest))) (told-of word u told space)
    ∙ with-fronted (bytes_eq u word) told (told_under word (lines rest))

-- lines of one word in front of a text
under-lines : {X : Type 0} (tells : X → List ℕ) (word u rest : List ℕ) (xs : List X) → Lacks 32 u → Lacks 10 u → AllByRecursion (λ x. Lacks 10 (tells x)) xs
    → told_under word (lines (flat_map (λ x. line_of u (tells x)) xs ++ rest))
    ≡ cond (bytes_eq u word) (map tells xs ++ told_under word (lines rest)) (told_under word (lines rest))
under-lines {X} tells word u rest [] space clear all = by (bytes_eq u word)
  where
    by : (b : Bool) → told_under word (lines rest) ≡ cond b (told_under word (lines rest)) (told_under word (lines rest))
    by true = refl
    by false = refl
under-lines {X} tells word u rest (x ∷ xs) space clear all =
    let later : List ℕ = flat_map (λ y. line_of u (tells y)) xs ++ rest in
    let ends : List (List ℕ) = told_under word (lines rest) in
    ap (λ (t : List ℕ). told_under word (lines t)) (append_assoc (line_of u (tells x)) (flat_map (λ y. line_of u (tells y)) xs) rest)
    ∙ under-line word u (tells x) later space clear all.0
    ∙ ap (λ (ts : List (List ℕ)). cond (bytes_eq u word) (tells x ∷ ts) ts) (under-lines tells word u rest xs space clear all.1)
    ∙ by (bytes_eq u word)
  where
    by : (b : Bool) → cond b (tells x ∷ cond b (map tells xs ++ told_under word (lines rest)) (told_under word (lines rest))) (cond b (map tells xs ++ told_under word (lines rest)) (told_under word (lines rest)))
        ≡ cond b (tells x ∷ (map tells xs ++ told_under word (lines rest))) (told_under word (lines rest))
    by true = refl
    by false = refl

all-lines : {X : Type 0} (fits : X → Type 0) (tells : X → List ℕ) → ((x : X) → fits x → Lacks 10 (tells x)) → (xs : List X) → AllByRecursion fits xs → AllByRecursion (λ x. Lacks 10 (tells x)) xs
all-lines {X} fits tells f [] all = tt
all-lines {X} fits tells f (x ∷ xs) all = (f x all.0, all-lines fits tells f xs all.1)

-- ---- a whole text

-- what the lines of a verdict tell of a word
abbrev pub one : List ℕ → List ℕ → List ℕ → List (List ℕ) → List (List ℕ)
one u told word ts = cond (bytes_eq u word) (told ∷ ts) ts

abbrev pub many : List ℕ → List (List ℕ) → List ℕ → List (List ℕ) → List (List ℕ)
many u tolds word ts = cond (bytes_eq u word) (tolds ++ ts) ts

abbrev pub all_told : Bool → List ℕ → Told → List (List ℕ)
all_told old word v =
    one (codes "verdict") (decimal (cond old 1 2)) word (one (codes "job") (decimal v.job) word (one (codes "flags") (decimal v.flags) word
    (one (codes "literal") v.literal word (one (codes "partitions") (decimal v.parts) word (one (codes "split") (decimal v.split) word
    (many (codes "input") (map (range_told old) v.inputs) word (many (codes "output") (map note_told v.outputs) word
    (many (codes "without") (map spot_told v.left_out) word (one (codes "emitted") (decimal v.pairs) word [])))))))))

spread : (a b c d e f r : List ℕ) → (a ++ (b ++ (c ++ (d ++ (e ++ f))))) ++ r ≡ a ++ (b ++ (c ++ (d ++ (e ++ (f ++ r)))))
spread a b c d e f r =
    append_assoc a (b ++ (c ++ (d ++ (e ++ f)))) r
    ∙ ap (λ (l : List ℕ). a ++ l) (append_assoc b (c ++ (d ++ (e ++ f))) r
    ∙ ap (λ (l : List ℕ). b ++ l) (append_assoc c (d ++ (e ++ f)) r
    ∙ ap (λ (l : List ℕ). c ++ l) (append_assoc d (e ++ f) r ∙ ap (λ (l : List ℕ). d ++ l) (append_assoc e f r))))

-- a number of 32 bits, on a line
small-line : (n : ℕ) → n < 2 ^ 32 → Lacks 10 (decimal n)
small-line n h = decimal-line n (omega (arith, h))

version-line : (old : Bool) → Lacks 10 (decimal (cond old 1 2))
version-line true = small-line 1 (omega arith)
version-line false = small-line 2 (omega arith)

module _ (old : Bool) (word : List ℕ) (v : Told) (fits : Fits old v) where
  under-last : told_under word (lines (number_line (codes "emitted") v.pairs)) ≡ one (codes "emitted") (decimal v.pairs) word []
  under-last =
      ap (λ (t : List ℕ). told_under word (lines t)) (sym (append-nil (number_line (codes "emitted") v.pairs)))
      ∙ under-line word (codes "emitted") (decimal v.pairs) [] (lacks-test 32 (codes "emitted") refl) (lacks-test 10 (codes "emitted") refl) (decimal-line v.pairs fits.pairs)
      ∙ ap (one (codes "emitted") (decimal v.pairs) word) (under-end word [] tt)

  under-names : told_under word (lines (flat_map spot_line v.left_out ++ number_line (codes "emitted") v.pairs))
      ≡ many (codes "without") (map spot_told v.left_out) word (one (codes "emitted") (decimal v.pairs) word [])
  under-names =
      under-lines spot_told word (codes "without") (number_line (codes "emitted") v.pairs) v.left_out (lacks-test 32 (codes "without") refl) (lacks-test 10 (codes "without") refl)
      (all-lines SpotFits spot_told spot-line v.left_out fits.left_out)
      ∙ ap (many (codes "without") (map spot_told v.left_out) word) under-last

  under-outputs : told_under word (lines (flat_map (note_line (codes "output")) v.outputs ++ (flat_map spot_line v.left_out ++ number_line (codes "emitted") v.pairs)))
      ≡ many (codes "output") (map note_told v.outputs) word (many (codes "without") (map spot_told v.left_out) word (one (codes "emitted") (decimal v.pairs) word []))
  under-outputs =
      under-lines note_told word (codes "output") (flat_map spot_line v.left_out ++ number_line (codes "emitted") v.pairs) v.outputs
      (lacks-test 32 (codes "output") refl) (lacks-test 10 (codes "output") refl) (all-lines NoteFits note_told note-line v.outputs fits.outputs)
      ∙ ap (many (codes "output") (map note_told v.outputs) word) under-names

  abbrev files_text : List ℕ
  files_text = flat_map (range_line old) v.inputs ++ (flat_map (note_line (codes "output")) v.outputs ++ (flat_map spot_line v.left_out ++ number_line (codes "emitted") v.pairs))

  under-inputs : told_under word (lines files_text)
      ≡ many (codes "input") (map (range_told old) v.inputs) word (many (codes "output") (map note_told v.outputs) word
      (many (codes "without") (map spot_told v.left_out) word (one (codes "emitted") (decimal v.pairs) word [])))
  under-inputs =
      under-lines (range_told old) word (codes "input") (flat_map (note_line (codes "output")) v.outputs ++ (flat_map spot_line v.left_out ++ number_line (codes "emitted") v.pairs)) v.inputs
      (lacks-test 32 (codes "input") refl) (lacks-test 10 (codes "input") refl) (all-lines (RangeFits old) (range_told old) (range-line old) v.inputs fits.inputs)
      ∙ ap (many (codes "input") (map (range_told old) v.inputs) word) under-outputs

  abbrev split_text : List ℕ
  split_text = number_line (codes "split") v.split ++ files_text

  abbrev parts_text : List ℕ
  parts_text = number_line (codes "partitions") v.parts ++ split_text

  abbrev literal_text : List ℕ
  literal_text = line_of (codes "literal") v.literal ++ parts_text

  abbrev flags_text : List ℕ
  flags_text = number_line (codes "flags") v.flags ++ literal_text

  abbrev job_text : List ℕ
  job_text = number_line (codes "job") v.job ++ flags_text

  pub under-all : told_under word (lines (spelled old v)) ≡ all_told old word v
  under-all =
      ap (λ (t : List ℕ). told_under word (lines t))
      (spread (number_line (codes "verdict") (cond old 1 2)) (number_line (codes "job") v.job) (number_line (codes "flags") v.flags) (line_of (codes "literal") v.literal)
      (number_line (codes "partitions") v.parts) (number_line (codes "split") v.split) files_text)
      ∙ under-line word (codes "verdict") (decimal (cond old 1 2)) job_text (lacks-test 32 (codes "verdict") refl) (lacks-test 10 (codes "verdict") refl) (version-line old)
      ∙ ap (one (codes "verdict") (decimal (cond old 1 2)) word)
      (under-line word (codes "job") (decimal v.job) flags_text (lacks-test 32 (codes "job") refl) (lacks-test 10 (codes "job") refl) (small-line v.job fits.job)
      ∙ ap (one (codes "job") (decimal v.job) word)
      (under-line word (codes "flags") (decimal v.flags) literal_text (lacks-test 32 (codes "flags") refl) (lacks-test 10 (codes "flags") refl) (small-line v.flags fits.flags)
      ∙ ap (one (codes "flags") (decimal v.flags) word)
      (under-line word (codes "literal") v.literal parts_text (lacks-test 32 (codes "literal") refl) (lacks-test 10 (codes "literal") refl) fits.literal
      ∙ ap (one (codes "literal") v.literal word)
      (under-line word (codes "partitions") (decimal v.parts) split_text (lacks-test 32 (codes "partitions") refl) (lacks-test 10 (codes "partitions") refl) (small-line v.parts fits.parts)
      ∙ ap (one (codes "partitions") (decimal v.parts) word)
      (under-line word (codes "split") (decimal v.split) files_text (lacks-test 32 (codes "split") refl) (lacks-test 10 (codes "split") refl) (small-line v.split fits.split)
      ∙ ap (one (codes "split") (decimal v.split) word) under-inputs)))))
