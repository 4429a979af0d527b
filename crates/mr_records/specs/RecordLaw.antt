-- The records of a file are the pieces between its line feeds.
use Rattle.std.specs.Prelude.{◌≡◌, ◌≢◌, ℕ, ◌+◌, ◌<◌, ◌≤◌, ◌⊎◌, ◌==◌, if◌then◌else◌, List, [], ◌∷◌, ◌++◌, All, length, slice_index}
use Rattle.std.specs.List.{flat_map}
use Rattle.mr_records.specs.Records.{Record, records}

-- no record holds a line feed
abbrev pub NoLineFeeds : Type 0
NoLineFeeds = (file : List ℕ) → All (λ r. All (λ b. b ≢ 0x0A) r.bytes) (records file)

-- each record, with the line feed behind it
abbrev pub with_line_feeds : List Record → List ℕ
with_line_feeds rs = flat_map (λ r. r.bytes ++ 0x0A ∷ []) rs

-- the file, with a line feed behind its last byte where that is none
abbrev pub ended : List ℕ → List ℕ
ended [] = []
ended (b ∷ []) = if b == 0x0A then b ∷ [] else b ∷ 0x0A ∷ []
ended (b ∷ c ∷ bs) = b ∷ ended (c ∷ bs)

-- joined, the records give the file back, the last with or without its line feed
abbrev pub GiveTheFileBack : Type 0
GiveTheFileBack = (file : List ℕ) → with_line_feeds (records file) ≡ ended file

-- the first record starts at the place `at`, and each other one behind the line feed of the one before
abbrev pub StartFrom : ℕ → List Record → Type 0
StartFrom at [] = Unit {0}
StartFrom at (r ∷ rs) = (r.start ≡ at) × StartFrom (at + length r.bytes + 1) rs

abbrev pub StartInTurn : Type 0
StartInTurn = (file : List ℕ) → StartFrom 0 (records file)

-- a place that is the file's first, or stands just behind a line feed
abbrev pub BeginsALine : List ℕ → ℕ → Type 0
BeginsALine file at = (at ≡ 0) ⊎ ((k : ℕ) × (k + 1 ≡ at) × (slice_index file k ≡ 0x0A))

-- a record starts where a line begins, and a byte stands there
abbrev pub StartWhereLinesBegin : Type 0
StartWhereLinesBegin = (file : List ℕ) → All (λ r. BeginsALine file r.start × (r.start < length file)) (records file)

-- there are no more records than bytes
abbrev pub FewRecords : Type 0
FewRecords = (file : List ℕ) → length (records file) ≤ length file
