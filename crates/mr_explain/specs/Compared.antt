-- A key's lines in a part of a result, compared with the text of its group.
use Rattle.std.specs.Prelude.{◌≡◌, ℕ, ◌+◌, ◌==◌, Bool, false, if◌then◌else◌, List, [], ◌∷◌, Option, None, Some, filter, length, map, slice_range}
use Rattle.std.specs.Str.{bytes_eq}
use Rattle.mr_records.specs.Records.{Record, records}
use Rattle.mr_explain.specs.declared.comparing.Comparison.{Comparison}
use Rattle.mr_explain.specs.declared.comparing.Comparison.TheVariants as told

-- one more byte before the key of a line
abbrev pub key_behind : ℕ → Option (List ℕ) → Option (List ℕ)
key_behind b None = if b == 9 then Some [] else None
key_behind b (Some key) = Some (b ∷ key)

-- the key of a line: the bytes before its last tab
abbrev pub key_of_line : List ℕ → Option (List ℕ)
key_of_line [] = None
key_of_line (b ∷ bs) = key_behind b (key_of_line bs)

abbrev pub is_key : List ℕ → Option (List ℕ) → Bool
is_key key None = false
is_key key (Some found) = bytes_eq found key

-- a record of a text with its line feed, if it has one
abbrev pub with_feed : List ℕ → Record → List ℕ
with_feed text r = slice_range text r.start (r.start + length r.bytes + 1)

-- the lines of a text, each with its line feed; the last may lack it
abbrev pub lines_of : List ℕ → List (List ℕ)
lines_of text = map (with_feed text) (records text)

-- those of the records of a part that have the key
abbrev pub with_key : List ℕ → List ℕ → List Record → List Record
with_key part key rs = filter (λ r. is_key key (key_of_line (with_feed part r))) rs

-- the lines of a part that have the key
abbrev pub lines_with : List ℕ → List ℕ → List (List ℕ)
lines_with part key = map (with_feed part) (with_key part key (records part))

pub data Answer : Type 0 where
  Agrees : Answer
  -- the first line that is another, without its line feed
  Differs : List ℕ → Answer
  -- a line is missing
  NoLine : Answer

abbrev pub answer_of : Comparison → Answer
answer_of told.Agrees = Agrees
answer_of (told.Differs line) = Differs line.now
answer_of told.NoLine = NoLine

-- lines of a part in turn against those that are expected
abbrev pub compared : List ℕ → List Record → List (List ℕ) → Answer
compared part [] [] = Agrees
compared part [] (t ∷ ts) = NoLine
compared part (r ∷ rs) [] = Differs r.bytes
compared part (r ∷ rs) (t ∷ ts) = if bytes_eq (with_feed part r) t then compared part rs ts else Differs r.bytes

-- the line is not the first of these
abbrev pub IsNotNext : List ℕ → List (List ℕ) → Type 0
IsNotNext line [] = Unit {0}
IsNotNext line (t ∷ ts) = line ≡ t → ⊥

-- a key's lines of a part against the lines of a text
abbrev pub comparison : List ℕ → List ℕ → List ℕ → Answer
comparison part key text = compared part (with_key part key (records part)) (lines_of text)
