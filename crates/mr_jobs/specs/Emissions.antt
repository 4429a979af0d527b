-- What a job emits for a record.
use Rattle.std.specs.Prelude.{◌≡◌, ℕ, Bool, true, false, if◌then◌else◌, List, [], ◌∷◌, map, drop, slice_index_or, Option, None, Some}
use Rattle.mr_bytes.specs.Bytes.{folded}
use Rattle.mr_bytes.specs.Words.{word_spans, word_spans_from, span_bytes}
use Rattle.mr_bytes.specs.declared.Span.{Span}
use Rattle.mr_bytes.specs.declared.Value.{Value}
use Rattle.mr_bytes.specs.declared.Value.TheVariants.{One, At}
use Rattle.mr_jobs.specs.declared.job.GroupText.{GroupText}
use Rattle.mr_jobs.specs.declared.job.GroupText.TheVariants.{Count, Lines, Files}
use Rattle.mr_jobs.specs.JobSpec.{JobSpec, WordCount, LinesWith, Resources, InvertedIndex, NthField, folds_words, group_text_of}
use Rattle.mr_jobs.specs.Fields.{field_of}
use Rattle.mr_jobs.specs.Literal.{holds}
use Rattle.mr_jobs.specs.Url.{url_of}

-- a key with its value
abbrev pub Emission : Type 0
Emission = List ℕ × Value

-- a word's key
abbrev pub word_key : Bool → List ℕ → List ℕ
word_key keep_case word = if keep_case then word else folded word

-- the keys of a line's words
abbrev pub word_keys : Bool → List ℕ → List (List ℕ)
word_keys keep_case line = map (λ w. word_key keep_case (span_bytes line w)) (word_spans line)

-- the one key, if there is one
abbrev pub one_key : Option (List ℕ) → List (List ℕ)
one_key None = []
one_key (Some key) = key ∷ []

-- the keys that the record `line` gives, one for each of its pairs
abbrev pub keys_of : JobSpec → List ℕ → List (List ℕ)
keys_of (WordCount keep_case) line = word_keys keep_case line
keys_of (LinesWith literal fold) line = if holds fold line literal then line ∷ [] else []
keys_of Resources line = one_key (url_of line)
keys_of (InvertedIndex keep_case) line = word_keys keep_case line
keys_of (NthField separator number) line = one_key (field_of separator number line)

-- the value that all pairs of a record have which begins at the place `start` of the file `file`, by what an output holds for a key
abbrev pub value_for : GroupText → ℕ → ℕ → Value
value_for Count file start = One
value_for Lines file start = At file start
value_for Files file start = At file start

abbrev pub value_at : JobSpec → ℕ → ℕ → Value
value_at job file start = value_for (group_text_of job) file start

-- what the record `line` emits, which begins at the place `start` of the file `file`: each of its keys with that value
abbrev pub emissions : JobSpec → ℕ → ℕ → List ℕ → List Emission
emissions job file start line = map (λ key. (key, value_at job file start)) (keys_of job line)

-- words of a text that was folded before, each with the value
abbrev pub words_at : Value → List ℕ → List Span → List Emission
words_at value text words = map (λ w. (span_bytes text w, value)) words

-- all its words from the place `from` on
abbrev pub words_from : Value → List ℕ → ℕ → List Emission
words_from value text from = words_at value text (word_spans_from from (drop from text))

-- what is left of an emitter: one pair with the whole text, or the words from a place on
abbrev pub still_emitted : List ℕ → ℕ → Value → Bool → List Emission
still_emitted text from value true = (text, value) ∷ []
still_emitted text from value false = words_from value text from

-- the buffer is as the job wants it for the line: folded, if it folds words
abbrev pub IsReady : JobSpec → List ℕ → List ℕ → Type 0
IsReady job line buffer = folds_words job ≡ true → buffer ≡ folded line

-- an emission by its number, and an empty key past the last
abbrev pub nth_emission : List Emission → ℕ → Emission
nth_emission es i = slice_index_or es i ([], One)
