-- The values of map and reduce tasks: what they give, however the work is cut (OSDI 2004, sections 3.1, 4.1 and 4.2).
use Rattle.std.specs.Prelude.{◌≡◌, ℕ, ◌<◌, ◌≤◌, ◌==◌, Bool, not, ◌&&◌, if◌then◌else◌, List, [], length, map, filter, take, drop, slice_index_or}
use Rattle.std.specs.List.{flat_map, list_any}
use Rattle.mr_bytes.specs.declared.Name.{Name}
use Rattle.mr_bytes.specs.declared.Value.{Value}
use Rattle.mr_bytes.specs.Pairs.{Triple}
use Rattle.mr_jobs.specs.Emissions.{emissions}
use Rattle.mr_jobs.specs.JobSpec.{JobSpec}
use Rattle.mr_spill.specs.Regions.{region}
use Rattle.mr_spill.specs.Column.{names_of}
use Rattle.mr_spill.specs.Lent.{RegionText}
use Rattle.mr_merge.specs.Bytes.{AreSpelled}
use Rattle.mr_merge.specs.Merged.{Group, AreSound, joined, merged}
use Rattle.mr_sequential.specs.Emitted.{placed_from}
use Rattle.mr_sequential.specs.Rules.{Key, Text}
use Rattle.mr_splits.specs.Named.{NamedRecord, named_records, of_split}

-- ---- map tasks

-- the list of left-out records has this number
abbrev pub has_number : List ℕ → ℕ → Bool
has_number numbers n = list_any (λ m. m == n) numbers

-- of this split, and of none of its records that are left out
abbrev pub is_of : ℕ → List ℕ → Triple → Bool
is_of split skips t = (t.name.split == split) && not (has_number skips t.name.rec)

-- what the split emits without these records, of all that the job emits
abbrev pub emitted_in : List Triple → ℕ → List ℕ → List Triple
emitted_in ts split skips = filter (is_of split skips) ts

-- what a record of a split gives, unless its number is left out
abbrev pub record_gives : JobSpec → List ℕ → NamedRecord → List Triple
record_gives job skips r = if has_number skips r.name.rec then [] else placed_from r.name 0 (emissions job r.file r.start r.bytes)

-- what the records of a split give from number `from` on and before number `next`
abbrev pub emitted_between : JobSpec → ℕ → List (List ℕ) → ℕ → List ℕ → ℕ → ℕ → List Triple
emitted_between job size files split skips from next =
    flat_map (record_gives job skips) (drop from (take next (of_split split (named_records size files))))

-- what the map task of a split without these records has for partition `p`, by key, then by name
abbrev pub map_value : (Key → ℕ) → List Triple → ℕ → List ℕ → ℕ → List Triple
map_value part ts split skips p = region part (emitted_in ts split skips) p

-- The pairs were taken run by run, and each run gave a region to each of so many partitions: for each partition the
-- list holds the regions of the runs.
pub record IsCutOf (part : Key → ℕ) (parts : ℕ) (pairs : List Triple) (regions : List (List (List Triple))) : Type 0 where
  pub runs : List (List Triple)
  pub all : joined runs ≡ pairs
  pub one_each : length regions ≡ parts
  pub each : (p : ℕ) → p < parts → slice_index_or regions p [] ≡ map (λ run. region part run p) runs

-- ---- reduce tasks

-- what a reduce task gives: its text, and the names of each group's pairs
pub record Reduced : Type 0 where
  pub output : Text
  pub groups : List (List Name)

-- the text of a group, by its key and its values
abbrev pub group_text : (Key → List Value → Text) → Group → Text
group_text text g = text g.key (map (λ t. t.value) g.pairs)

abbrev pub reduced : (Key → List Value → Text) → List Group → Reduced
reduced text groups = record { output = flat_map (group_text text) groups; groups = map (λ g. names_of g.pairs) groups }

-- what a reduce task makes of the pairs that it is handed, in whatever lists they are
abbrev pub reduce_value : (Key → List Value → Text) → List (List Triple) → Reduced
reduce_value text values = reduced text (merged (joined values))

-- the regions spell pairs of the partition, each in order, no name stands twice, and there are no more pairs than the
-- splits of an input emit
pub record CanMerge (partition : ℕ) (regions : List RegionText) : Type 0 where
  pub values : List (List Triple)
  pub spelled : AreSpelled partition regions values
  pub sound : AreSound values
  pub few : length (joined values) ≤ 1073741824

-- the value over what was read
pub record IsReduced (text : Key → List Value → Text) (partition : ℕ) (regions : List RegionText) (out : Reduced) : Type 0 where
  pub can : CanMerge partition regions
  pub is : out ≡ reduce_value text can.values
