-- How many emissions a record has, and how long their keys are.
use Rattle.std.proofs.Common.{◌≡◌, ℕ, ◌+◌, ◌-◌, ◌<◌, ◌≤◌, ◌⊎◌, inl, inr, ◌∙◌, map, sum_by, Bool, true, false, cond, eqb, List, [], ◌∷◌, All, length, drop, refl, sym, ap, subst, arith, Option, None, Some}
use Rattle.std.proofs.lemmas.List.{length-map, length-take}
use Rattle.std.proofs.lemmas.List.Elements.{All-head, All-map, All-weaker}
use Rattle.mr_bytes.specs.Bytes.{is_word_byte, fold_byte}
use Rattle.mr_bytes.specs.Words.{extend, word_spans, word_spans_from, span_bytes}
use Rattle.mr_bytes.specs.declared.Span.{Span}
use Rattle.std.proofs.lemmas.Bool.{cases_lt, eqb-true, false≢true}
use Rattle.std.proofs.lemmas.List.Sums.{sum_by-cons}
use Rattle.mr_bytes.specs.declared.Value.{Value}
use Rattle.mr_bytes.specs.declared.Value.TheVariants.{One}
use Rattle.mr_bytes.proofs.WordLemmas.{word_spans_from-cons, word_spans_from-nil}
use Rattle.mr_jobs.specs.Emissions.{Emission, emissions, keys_of, one_key, value_at, value_for, word_key, word_keys}
use Rattle.mr_jobs.specs.Fields.{FieldFits, field_of}
use Rattle.mr_jobs.specs.Laws.{HasEmptyField, FewEmissions, ShortKeys, KeysFitTheRecord, CountersEmitOnes, OneValueEach}
use Rattle.mr_jobs.specs.Literal.{Holds, holds, begins_with}
use Rattle.mr_jobs.specs.JobSpec.{JobFits, JobSpec, WordCount, LinesWith, Resources, InvertedIndex, NthField, folds_words, group_text_of, is_count}
use Rattle.mr_jobs.specs.declared.job.GroupText.{GroupText}
use Rattle.mr_jobs.specs.declared.job.GroupText.TheVariants.{Count, Lines, Files}
use Rattle.mr_jobs.specs.Url.{url_of}
use Rattle.mr_jobs.proofs.FieldLemmas.{between-nil, short_field, some_stretch}
use Rattle.mr_jobs.proofs.KeyLemmas.{keys_stand, short_key, stands_request}
use Rattle.mr_jobs.proofs.UrlLemmas.{parts_of-url}

length-extend : (at : ℕ) (ws : List Span) → length (extend at ws) ≤ length ws + 1
unfolding extend
length-extend at [] = omega arith
length-extend at (w ∷ ws) =
    elim (eqb w.start (at + 1)) as (λ t. length (cond t (record { start = at; end = w.end } ∷ ws) (record { start = at; end = at + 1 } ∷ w ∷ ws)) ≤ length (w ∷ ws) + 1) [
      | true ↦ omega arith
      | false ↦ omega arith
    ]

few_words : (at : ℕ) (bs : List ℕ) → length (word_spans_from at bs) ≤ length bs
few_words at [] = let none : length (word_spans_from at []) ≡ 0 = ap length (word_spans_from-nil at) in omega (arith, none)
few_words at (b ∷ bs) =
    let later : length (word_spans_from (at + 1) bs) ≤ length bs = few_words (at + 1) bs in
    let one : length (extend at (word_spans_from (at + 1) bs)) ≤ length (word_spans_from (at + 1) bs) + 1 = length-extend at (word_spans_from (at + 1) bs) in
    subst (λ (ws : List Span). length ws ≤ length (b ∷ bs)) (sym (word_spans_from-cons at b bs))
    (elim (is_word_byte b) as (λ t. length (cond t (extend at (word_spans_from (at + 1) bs)) (word_spans_from (at + 1) bs)) ≤ length (b ∷ bs)) [
      | true ↦ omega (arith, later, one)
      | false ↦ omega (arith, later)
    ])

few_one : (found : Option (List ℕ)) → length (one_key found) ≤ 1
few_one None = omega arith
few_one (Some key) = omega arith

few_if : (t : Bool) (line : List ℕ) → length (cond t (line ∷ []) []) ≤ length line + 1
few_if true line = omega arith
few_if false line = omega arith

few_word_keys : (keep_case : Bool) (line : List ℕ) → length (word_keys keep_case line) ≤ length line
few_word_keys keep_case line = omega (arith, few_words 0 line, length-map (word_spans line) (λ w. word_key keep_case (span_bytes line w)))

few_keys : (job : JobSpec) (line : List ℕ) → length (keys_of job line) ≤ length line + 1
few_keys (WordCount keep_case) line = omega (arith, few_word_keys keep_case line)
few_keys (LinesWith literal fold) line = few_if (holds fold line literal) line
few_keys Resources line = omega (arith, few_one (url_of line))
few_keys (InvertedIndex keep_case) line = omega (arith, few_word_keys keep_case line)
few_keys (NthField separator number) line = omega (arith, few_one (field_of separator number line))

-- a pair for each key
one_each : (job : JobSpec) (file start : ℕ) (line : List ℕ) → length (emissions job file start line) ≡ length (keys_of job line)
one_each job file start line = length-map (keys_of job line) (λ key. (key, value_at job file start))

-- whatever the literal is
pub few_emissions : (job : JobSpec) (file start : ℕ) (line : List ℕ) → length (emissions job file start line) ≤ length line + 1
few_emissions job file start line = omega (arith, few_keys job line, one_each job file start line)

holds-none : (fold : Bool) (x : ℕ) (xs : List ℕ) → holds fold [] (x ∷ xs) ≡ false
unfolding holds begins_with
holds-none fold x xs = refl

-- a line that holds some literal has a byte
holding_some : (fold : Bool) (line literal : List ℕ) → 0 < length literal → holds fold line literal ≡ true → 0 < length line
holding_some fold [] (x ∷ xs) some h = absurd (false≢true (sym (holds-none fold x xs) ∙ h))
holding_some fold [] [] some h = absurd (omega (arith, some))
holding_some fold (b ∷ bs) literal some h = omega arith

one_in_some : (t : Bool) (line : List ℕ) → (t ≡ true → 0 < length line) → length (cond t (line ∷ []) []) ≤ length line
one_in_some true line some = let h = some refl in omega (arith, h)
one_in_some false line some = omega arith

one_of_some : (line : List ℕ) (found : Option (List ℕ)) → ((key : List ℕ) → found ≡ Some key → (0 < length key) × (length key ≤ length line)) → length (one_key found) ≤ length line
one_of_some line None some = omega arith
one_of_some line (Some key) some = let h = some key refl in omega (arith, h.0, h.1)

-- a line that isn't empty has a byte for its field, and an empty one at most one field
one_between : (s number : ℕ) (line : List ℕ) → FieldFits (Some s) number
    → (length (one_key (field_of (Some s) number line)) ≤ length line) ⊎ HasEmptyField (NthField (Some s) number) line
one_between s number (b ∷ bs) fits = inl (omega (arith, few_one (field_of (Some s) number (b ∷ bs))))
one_between s number [] fits =
    elim (cases_lt 1 number) [
      | inl more ↦
          let none : length (one_key (field_of (Some s) number [])) ≡ 0 = ap (λ found. length (one_key found)) (between-nil s (number - 1) (omega (arith, more))) in
          inl (omega (arith, none))
      | inr le ↦
          let one : number ≡ 1 = omega (arith, le, fits.number_fits.0) in
          inr (refl, (s, ap (NthField (Some s)) one))
    ]

keys_few : (job : JobSpec) (line : List ℕ) → JobFits job → (length (keys_of job line) ≤ length line) ⊎ HasEmptyField job line
keys_few (WordCount keep_case) line fits = inl (few_word_keys keep_case line)
keys_few (LinesWith literal fold) line fits = inl (one_in_some (holds fold line literal) line (holding_some fold line literal fits.some))
keys_few Resources line fits =
    inl (one_of_some line (url_of line) (λ key e. ((parts_of-url line key e).some_key, short_key false line key (stands_request line key (parts_of-url line key e)))))
keys_few (InvertedIndex keep_case) line fits = inl (few_word_keys keep_case line)
keys_few (NthField None number) line fits =
    inl (one_of_some line (field_of None number line) (λ key e. (some_stretch number line key e, short_field None number line key e)))
keys_few (NthField (Some s) number) line fits = one_between s number line fits

pub emissions_fit : FewEmissions
emissions_fit job file start line fits =
    elim (keys_few job line fits) [
      | inl few ↦ inl (omega (arith, few, one_each job file start line))
      | inr empty ↦ inr empty
    ]

-- keys
short_all : (job : JobSpec) (line : List ℕ) → All (λ key. length key ≤ length line) (keys_of job line)
short_all job line =
    All-weaker (Holds (folds_words job) line) (λ key. length key ≤ length line) (short_key (folds_words job) line) (keys_of job line) (keys_stand job line)

pub short_keys : ShortKeys
short_keys job file start line =
    All-map (λ (e : Emission). length e.0 ≤ length line) (λ key. (key, value_at job file start)) (keys_of job line) (short_all job line)

-- keys, together
abbrev span_sizes : List Span → ℕ
span_sizes [] = 0
span_sizes (w ∷ ws) = (w.end - w.start) + span_sizes ws

sizes-extend : (at : ℕ) (ws : List Span) → span_sizes (extend at ws) ≤ span_sizes ws + 1
unfolding extend
sizes-extend at [] = omega arith
sizes-extend at (w ∷ ws) =
    by (eqb w.start (at + 1)) refl
  where
    by : (t : Bool) → eqb w.start (at + 1) ≡ t
        → span_sizes (cond t (record { start = at; end = w.end } ∷ ws) (record { start = at; end = at + 1 } ∷ w ∷ ws)) ≤ span_sizes (w ∷ ws) + 1
    by true e = let same = eqb-true w.start (at + 1) e in omega (arith, same)
    by false e = omega arith

sizes-words : (at : ℕ) (bs : List ℕ) → span_sizes (word_spans_from at bs) ≤ length bs
sizes-words at [] = let none : span_sizes (word_spans_from at []) ≡ 0 = ap span_sizes (word_spans_from-nil at) in omega (arith, none)
sizes-words at (b ∷ bs) =
    let rest : List Span = word_spans_from (at + 1) bs in
    let later : span_sizes rest ≤ length bs = sizes-words (at + 1) bs in
    let one : span_sizes (extend at rest) ≤ span_sizes rest + 1 = sizes-extend at rest in
    subst (λ (ws : List Span). span_sizes ws ≤ length (b ∷ bs)) (sym (word_spans_from-cons at b bs))
    (elim (is_word_byte b) as (λ t. span_sizes (cond t (extend at rest) rest) ≤ length (b ∷ bs)) [
      | true ↦ omega (arith, later, one)
      | false ↦ omega (arith, later)
    ])

word_size : (keep_case : Bool) (line : List ℕ) (w : Span) → length (word_key keep_case (span_bytes line w)) ≤ w.end - w.start
word_size true line w = omega (arith, length-take (w.end - w.start) (drop w.start line))
word_size false line w = omega (arith, length-map (span_bytes line w) fold_byte, length-take (w.end - w.start) (drop w.start line))

sizes-keys : (keep_case : Bool) (line : List ℕ) (ws : List Span) → sum_by length (map (λ w. word_key keep_case (span_bytes line w)) ws) ≤ span_sizes ws
sizes-keys keep_case line [] = omega arith
sizes-keys keep_case line (w ∷ ws) =
    omega (
      arith,
      sum_by-cons length (word_key keep_case (span_bytes line w)) (map (λ v. word_key keep_case (span_bytes line v)) ws),
      word_size keep_case line w,
      sizes-keys keep_case line ws,
    )

size_of_words : (keep_case : Bool) (line : List ℕ) → sum_by length (word_keys keep_case line) ≤ length line
size_of_words keep_case line = omega (arith, sizes-keys keep_case line (word_spans line), sizes-words 0 line)

size_of_one : (key : List ℕ) → sum_by length (key ∷ []) ≡ length key
size_of_one key = omega (arith, sum_by-cons length key [])

size_if : (t : Bool) (line : List ℕ) → sum_by length (cond t (line ∷ []) []) ≤ length line
size_if true line = omega (arith, size_of_one line)
size_if false line = omega arith

-- the one key, which is no longer than the line
size_of_key : (line : List ℕ) (found : Option (List ℕ)) → All (λ key. length key ≤ length line) (one_key found) → sum_by length (one_key found) ≤ length line
size_of_key line None short = omega arith
size_of_key line (Some key) short = omega (arith, size_of_one key, All-head (λ k. length k ≤ length line) key [] short)

sizes_of : (job : JobSpec) (line : List ℕ) → sum_by length (keys_of job line) ≤ length line
sizes_of (WordCount keep_case) line = size_of_words keep_case line
sizes_of (LinesWith literal fold) line = size_if (holds fold line literal) line
sizes_of Resources line = size_of_key line (url_of line) (short_all Resources line)
sizes_of (InvertedIndex keep_case) line = size_of_words keep_case line
sizes_of (NthField separator number) line = size_of_key line (field_of separator number line) (short_all (NthField separator number) line)

same_sizes : (value : Value) (keys : List (List ℕ)) → sum_by (λ (e : Emission). length e.0) (map (λ key. (key, value)) keys) ≡ sum_by length keys
same_sizes value [] = refl
same_sizes value (key ∷ keys) =
    omega (
      arith,
      sum_by-cons (λ (e : Emission). length e.0) (key, value) (map (λ k. (k, value)) keys),
      sum_by-cons length key keys,
      same_sizes value keys,
    )

pub keys_fit : KeysFitTheRecord
keys_fit job file start line = omega (arith, sizes_of job line, same_sizes (value_at job file start) (keys_of job line))

-- values
pub one_value : (form : GroupText) (file start : ℕ) → is_count form ≡ true → value_for form file start ≡ One
one_value Count file start e = refl
one_value Lines file start e = absurd (false≢true e)
one_value Files file start e = absurd (false≢true e)

pub counters_emit_ones : CountersEmitOnes
counters_emit_ones job file start line is =
    All-map (λ (e : Emission). e.1 ≡ One) (λ key. (key, value_at job file start)) (keys_of job line) (λ k d less. one_value (group_text_of job) file start is)

pub one_value_each : OneValueEach
one_value_each job file start line =
    All-map (λ (e : Emission). e.1 ≡ value_at job file start) (λ key. (key, value_at job file start)) (keys_of job line) (λ k d less. refl)
