-- Of no public promise: the names of pairs in their order, record by record, and what a name tells.
use Rattle.std.specs.Prelude.{◌≡◌, length, ℕ, ◌+◌, ◌<◌, ◌==◌, List, count_by, map, slice_index, slice_range}
use Rattle.mr_bytes.specs.declared.Name.{Name}
use Rattle.mr_bytes.specs.declared.Value.{Value}
use Rattle.mr_certform.specs.Packed.{Numbered, names_from, names_of}
use Rattle.mr_group.specs.Buckets.{before, bucket, size}
use Rattle.mr_input.specs.Files.{split_total}
use Rattle.mr_jobs.specs.JobSpec.{JobSpec}
use Rattle.mr_jobs.specs.Emissions.{emissions, value_at}
use Rattle.mr_splits.specs.Named.{NamedRecord, of_split}
use Rattle.mr_splits.specs.Cut.{Cut, nth_named, records_of}
use Rattle.mr_splits.specs.Kept.{Choice}
use Rattle.mr_bytes.specs.Pairs.{Triple}
use Rattle.mr_sequential.specs.Emitted.{emitted, silent_count}
use Rattle.mr_sequential.specs.Rules.{Key}

-- the names of what a record gives
abbrev pub record_names : JobSpec → NamedRecord → List Name
record_names job r = names_from r.name 0 (length (emissions job r.file r.start r.bytes))

-- all that a job emits for the records that are kept
abbrev pub triples_of : JobSpec → Choice → List Triple
triples_of job choice = emitted job choice.cut.size choice.cut.files choice.skips

-- how many kept records give nothing
abbrev pub silent_of : JobSpec → Choice → ℕ
silent_of job choice = silent_count job choice.cut.size choice.cut.files choice.skips

-- the keys of all pairs, and their names
pub record AreEmitted (job : JobSpec) (choice : Choice) (keys : List Key) (names : Numbered) : Type 0 where
  pub keys_are : keys ≡ map (λ t. t.key) (triples_of job choice)
  pub names_are : names_of names ≡ map (λ t. t.name) (triples_of job choice)

-- there is a record of that name
abbrev pub IsOfRecord : Cut → Name → Type 0
IsOfRecord cut n = (n.split < split_total cut.size cut.files) × (n.rec < length (of_split n.split (records_of cut)))

-- the record that a name tells
abbrev pub record_under : List NamedRecord → Name → NamedRecord
record_under rs n = nth_named (of_split n.split rs) n.rec

-- the value of the pair that a name tells
abbrev pub value_under : JobSpec → List NamedRecord → Name → Value
value_under job rs n = value_at job (record_under rs n).file (record_under rs n).start

-- how many numbers are each number below `count`
pub record AreSizes (count : ℕ) (numbers sizes : List ℕ) : Type 0 where
  pub len : length sizes ≡ count
  pub each : (i : ℕ) → i < count → slice_index sizes i ≡ count_by (λ j. j == i) numbers

-- the names, one rank after another: those of a rank are those beside its number, in their order
abbrev pub AreByRank : ℕ → List (ℕ × Name) → List Name → Type 0
AreByRank ranks es names = (i : ℕ) → i < ranks → slice_range names (before (size es) i) (before (size es) (i + 1)) ≡ bucket i es
