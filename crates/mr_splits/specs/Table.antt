-- The tables of a plan: the ends of all records, and for each split which of them are its own, and where its first one starts.
use Rattle.std.specs.Prelude.{◌≡◌, ℕ, ◌+◌, ◌<◌, ◌≤◌, List, [], ◌∷◌, ◌++◌, map, drop, length, All, slice_range, slice_index_or}
use Rattle.mr_bytes.specs.declared.Span.{Span}
use Rattle.mr_records.specs.Records.{Record, record_at, records_from, Within}
use Rattle.mr_input.specs.Files.{nth_file}
use Rattle.mr_splits.specs.declared.split_table.Row.{Row}
use Rattle.mr_splits.specs.Named.{NamedRecord}
use Rattle.mr_splits.specs.Places.{IsSplit}

-- records of one split, numbered from `next` on
unfoldable pub numbered : ℕ → ℕ → ℕ → List Record → List NamedRecord
numbered s file next [] = []
numbered s file next (r ∷ rs) =
    record { name = record { split = s; rec = next }; file = file; start = r.start; bytes = r.bytes } ∷ numbered s file (next + 1) rs

-- the spans of records by the places where they end; the first starts at `start`, and each other one behind the end before it
abbrev pub spans_from : ℕ → List ℕ → List Span
spans_from start [] = []
spans_from start (e ∷ es) = record { start = start; end = e } ∷ spans_from (e + 1) es

-- where the record behind them starts
abbrev pub behind : ℕ → List ℕ → ℕ
behind start [] = start
behind start (e ∷ es) = behind (e + 1) es

-- the ends and the spans of a row's own records
abbrev pub ends_of : List ℕ → Row → List ℕ
ends_of ends row = slice_range ends row.first (row.first + row.count)

abbrev pub spans_of : List ℕ → Row → List Span
spans_of ends row = spans_from row.begin (ends_of ends row)

abbrev pub nth_span : List Span → ℕ → Span
nth_span spans r = slice_index_or spans r (record { start = 0; end = 0 })

-- the records that a row gives the split `s`
abbrev pub row_records : List (List ℕ) → List ℕ → ℕ → Row → List NamedRecord
row_records files ends s row = numbered s row.place.file 0 (map (record_at (nth_file files row.place.file)) (spans_of ends row))

-- the records that the rows give the splits from `s` on
unfoldable pub listed : List (List ℕ) → List ℕ → ℕ → List Row → List NamedRecord
listed files ends s [] = []
listed files ends s (row ∷ rows) = row_records files ends s row ++ listed files ends (s + 1) rows

-- the rows' ranges follow one another from `at` to `end`
abbrev pub Tiles : ℕ → ℕ → List Row → Type 0
Tiles at end [] = at ≡ end
Tiles at end (row ∷ rows) = (row.first ≡ at) × Tiles (at + row.count) end rows

-- a row's place is that of its split, and its spans lie in its file
pub record RowStands (size : ℕ) (files : List (List ℕ)) (ends : List ℕ) (s : ℕ) (row : Row) : Type 0 where
  pub place : IsSplit size files s row.place
  pub within : All (Within (nth_file files row.place.file)) (spans_of ends row)

pub record Stands (size : ℕ) (files : List (List ℕ)) (ends : List ℕ) (rows : List Row) : Type 0 where
  pub rows_stand : (s : ℕ) (d : Row) → s < length rows → RowStands size files ends s (slice_index_or rows s d)
  pub tiles : Tiles 0 (length ends) rows

-- the ends are those of the records that start from `from` on and before `end`, and the next record starts at `next`
pub record Takes (bytes : List ℕ) (from end next : ℕ) (ends : List ℕ) : Type 0 where
  pub within : All (Within bytes) (spans_from from ends)
  pub belong : All (λ (s : Span). (from ≤ s.start) × (s.start < end)) (spans_from from ends)
  pub records : records_from from (drop from bytes) ≡ map (record_at bytes) (spans_from from ends) ++ records_from next (drop next bytes)
  pub few : from + length ends ≤ next
  pub next_is : next ≡ behind from ends
