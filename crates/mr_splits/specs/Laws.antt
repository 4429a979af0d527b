-- What the named records of an input are, in the words of the subject.
use Rattle.std.specs.Prelude.{◌≡◌, ℕ, zero, suc, ◌+◌, ◌<◌, List, [], ◌++◌, length, map}
use Rattle.std.specs.List.{flat_map, range_with_len}
use Rattle.mr_bytes.specs.Lists.{Rises}
use Rattle.mr_bytes.specs.Order.{record_order}
use Rattle.mr_records.specs.Records.{Record, records}
use Rattle.mr_input.specs.Files.{split_total}
use Rattle.mr_splits.specs.Named.{NamedRecord, named_records, of_split}

-- the records of `count` splits from `low` on, joined
unfoldable pub joined_splits : ℕ → ℕ → List NamedRecord → List NamedRecord
joined_splits low zero rs = []
joined_splits low (suc count) rs = of_split low rs ++ joined_splits (low + 1) count rs

-- the records of the splits, joined, are all records
abbrev pub SplitsJoin : Type 0
SplitsJoin = (size : ℕ) (files : List (List ℕ)) → 0 < size → joined_splits 0 (split_total size files) (named_records size files) ≡ named_records size files

abbrev pub record_of : NamedRecord → Record
record_of r = record { start = r.start; bytes = r.bytes }

-- without their names these are the records of the files, in order
abbrev pub NamedAreRecords : Type 0
NamedAreRecords = (size : ℕ) (files : List (List ℕ)) → map record_of (named_records size files) ≡ flat_map records files

-- the records of a split are numbered from 0
abbrev pub NumbersCount : Type 0
NumbersCount = (size : ℕ) (files : List (List ℕ)) (s : ℕ) → 0 < size
    → map (λ r. r.name.rec) (of_split s (named_records size files)) ≡ range_with_len 0 (length (of_split s (named_records size files)))

-- names of records rise strictly
abbrev pub NamesOfRecordsRise : Type 0
NamesOfRecordsRise = (size : ℕ) (files : List (List ℕ)) → 0 < size → Rises record_order (map (λ r. r.name) (named_records size files))
