-- Which file and which split a record belongs to.
use Rattle.std.specs.Prelude.{◌≡◌, ℕ, ◌<◌, ◌≤◌, ◌==◌, List, All, filter, map}
use Rattle.mr_records.specs.Records.{records}
use Rattle.mr_input.specs.Files.{nth_file}
use Rattle.mr_splits.specs.declared.plan.SplitPlace.{SplitPlace}
use Rattle.mr_splits.specs.Named.{NamedRecord, named_records}
use Rattle.mr_splits.specs.Laws.{record_of}
use Rattle.mr_splits.specs.Places.{IsSplit}

-- the split in the record's name lies in the record's file and has its start
pub record Belongs (size : ℕ) (files : List (List ℕ)) (r : NamedRecord) : Type 0 where
  pub place : SplitPlace
  pub split : IsSplit size files r.name.split place
  pub file : place.file ≡ r.file
  pub from : place.start ≤ r.start
  pub before : r.start < place.end

-- each record belongs to the split that has its start
abbrev pub RecordsBelong : Type 0
RecordsBelong = (size : ℕ) (files : List (List ℕ)) → 0 < size → All (Belongs size files) (named_records size files)

-- the records told of a file are just its records, in their order
abbrev pub RecordsAreByFile : Type 0
RecordsAreByFile = (size : ℕ) (files : List (List ℕ)) (i : ℕ)
    → map record_of (filter (λ r. r.file == i) (named_records size files)) ≡ records (nth_file files i)
