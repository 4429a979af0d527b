-- Pieces of files with their words, and the places in a text that no word runs over.
use Rattle.std.specs.Prelude.{◌≡◌, ℕ, ◌+◌, ◌-◌, ◌<◌, ◌≤◌, ◌^◌, All, Bool, true, false, if◌then◌else◌, List, length, slice_range, slice_index, slice_index_or}
use Rattle.mr_bytes.specs.Bytes.{folded, is_word_byte}
use Rattle.mr_bytes.specs.Words.{word_spans}
use Rattle.mr_bytes.specs.declared.Span.{Span}
use Rattle.mr_bytes.specs.declared.Value.{Value}
use Rattle.mr_jobs.specs.Emissions.{words_at, words_from}

-- bytes as a job reads them: folded where the flag is true
abbrev pub read_as : Bool → List ℕ → List ℕ
read_as folds bytes = if folds then folded bytes else bytes

-- the bytes of the file of that number, from the place `from` on; whether their words are listed; and the words of a line
pub record PieceSpec : Type 0 where
  pub folds : Bool
  pub file : ℕ
  pub from : ℕ
  pub text : List ℕ
  pub listed : Bool
  pub line : List Span

-- the words of a text from one number to before another, or all
abbrev pub words_in : Bool → List ℕ → ℕ → ℕ → List Span
words_in listed text first last = if listed then slice_range (word_spans text) first last else word_spans text

-- the piece is a part of the text, as its flag tells to read it
pub record IsPart (text : List ℕ) (piece : PieceSpec) : Type 0 where
  pub within : piece.from + length piece.text ≤ length text
  pub bytes : piece.text ≡ read_as piece.folds (slice_range text piece.from (piece.from + length piece.text))

-- no word runs over the place
abbrev pub IsSeam : List ℕ → ℕ → Type 0
IsSeam text at = 0 < at → at < length text → is_word_byte (slice_index text (at - 1)) ≡ true → is_word_byte (slice_index text at) ≡ false

-- where the word of that number begins
abbrev pub start_at : List Span → ℕ → ℕ
start_at words i = (slice_index_or words i (record { start = 0; end = 0 })).start

-- the word before number `k` begins before the place, and the word of number `k` there or later
pub record IsCut (words : List Span) (at k : ℕ) : Type 0 where
  pub within : k ≤ length words
  pub before : 0 < k → start_at words (k - 1) < at
  pub behind : k < length words → at ≤ start_at words k

-- the word stands in the text
abbrev pub IsOf : List ℕ → Span → Type 0
IsOf text w = (w.start ≤ w.end) × (w.end ≤ length text)

-- words of a text, and a place in it
pub record FitsText (text : List ℕ) (words : List Span) (from : ℕ) : Type 0 where
  pub inside : All (IsOf text) words
  pub within : from ≤ length text
  pub small : length text ≤ 2 ^ 30

-- the piece has the bytes of the file from `start` to before `end`, and no word runs over these places
pub record HasLine (piece : PieceSpec) (file start end : ℕ) : Type 0 where
  pub listed : piece.listed ≡ true
  pub same : piece.file ≡ file
  pub before : piece.from ≤ start
  pub within : end ≤ piece.from + length piece.text
  pub first : IsSeam piece.text (start - piece.from)
  pub last : IsSeam piece.text (end - piece.from)

-- the line of the piece has the words of these bytes
abbrev pub IsLineOf : List ℕ → PieceSpec → Type 0
IsLineOf bytes piece = (value : Value) → words_at value piece.text piece.line ≡ words_from value bytes 0
