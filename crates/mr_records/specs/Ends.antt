-- The records of a file by the places where they end.
use Rattle.std.specs.Prelude.{ℕ, ◌+◌, ◌-◌, ◌≤◌, ◌==◌, ◌&&◌, Bool, not, List, [], ◌∷◌, length, nat_lt, slice_index, slice_range}
use Rattle.mr_records.specs.Records.{Record}

-- the records that end at the places `ends`; the first starts at `from`, and each other one behind the end before it
abbrev pub ended_at : List ℕ → ℕ → List ℕ → List Record
ended_at file from [] = []
ended_at file from (e ∷ es) = record { start = from; bytes = slice_range file from e } ∷ ended_at file (e + 1) es

-- the first end is at `from` or later, each other one behind the end before it, and all lie within the file
abbrev pub EndsRise : List ℕ → ℕ → List ℕ → Type 0
EndsRise file from [] = Unit {0}
EndsRise file from (e ∷ es) = (from ≤ e) × (e ≤ length file) × EndsRise file (e + 1) es

-- bytes stand behind the last line feed
abbrev pub is_open : List ℕ → Bool
is_open file = nat_lt 0 (length file) && not (slice_index file (length file - 1) == 0x0A)
