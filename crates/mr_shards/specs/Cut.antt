-- A file that is cut where a line ends.
use Rattle.std.specs.Prelude.{◌≡◌, ℕ, ◌+◌, List, ◌++◌, length, map}
use Rattle.mr_records.specs.Records.{Record, records}
use Rattle.mr_shards.specs.Lines.{EndsLine}

-- a record, where so many bytes stand before the file's first
abbrev pub record_behind : ℕ → Record → Record
record_behind bytes r = record { start = bytes + r.start; bytes = r.bytes }

-- where the first of two pieces is empty or ends with a line feed, the records of both are those of the first, and those of
-- the second behind its bytes
abbrev pub RecordsOfBoth : Type 0
RecordsOfBoth = (a b : List ℕ) → EndsLine a → records (a ++ b) ≡ records a ++ map (record_behind (length a)) (records b)
