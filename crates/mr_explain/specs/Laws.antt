-- What the definitions mean, in the words of the subject.
use Rattle.std.specs.Prelude.{◌≡◌, ◌↔◌, ℕ, ◌<◌, List, IsTrue, filter, map}
use Rattle.std.specs.List.{AllByRecursion, filter_map}
use Rattle.mr_bytes.specs.declared.RecordName.{RecordName}
use Rattle.mr_bytes.specs.Lists.{Has, Rises}
use Rattle.mr_bytes.specs.Order.{record_order}
use Rattle.mr_jobs.specs.Emissions.{Emission}
use Rattle.mr_splits.specs.Named.{is_left_out, named_records}
use Rattle.mr_splits.specs.Cut.{is_record, record_named}
use Rattle.mr_explain.specs.Explained.{has_key}

-- a record gives a key exactly where the key is among the keys that it emits
abbrev pub GivesItsKeys : Type 0
GivesItsKeys = (key : List ℕ) (es : List Emission) → IsTrue (has_key key es) ↔ Has (map (λ e. e.0) es) key

-- where names rise and are those of records, the records that they name are just those that they leave out, in order
abbrev pub LeftOutAreNamed : Type 0
LeftOutAreNamed = (size : ℕ) (files : List (List ℕ)) (skips : List RecordName) → 0 < size → Rises record_order skips
    → AllByRecursion (λ name. IsTrue (is_record (named_records size files) name)) skips
    → filter_map (record_named (named_records size files)) skips ≡ filter (λ r. is_left_out skips r.name) (named_records size files)
