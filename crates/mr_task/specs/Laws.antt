-- What map values are.
use Rattle.std.specs.Prelude.{◌≡◌, ◌↔◌, ℕ, ◌<◌, ◌≤◌, List, [], ◌++◌, length}
use Rattle.mr_bytes.specs.Lists.{Has, Rises}
use Rattle.mr_bytes.specs.Pairs.{Triple, pair_order}
use Rattle.mr_jobs.specs.JobSpec.{JobSpec}
use Rattle.mr_sequential.specs.Emitted.{emitted}
use Rattle.mr_sequential.specs.Rules.{Key}
use Rattle.mr_splits.specs.Named.{named_records, of_split}
use Rattle.mr_task.specs.Values.{emitted_between, emitted_in, map_value}

-- a map value rises by key and name, strictly
abbrev pub MapValuesRise : Type 0
MapValuesRise = (part : Key → ℕ) (ts : List Triple) (split : ℕ) (skips : List ℕ) (p : ℕ) → Rises pair_order (map_value part ts split skips p)

-- of all that a job emits it has just the pairs of its split and partition, without those of the records left out
abbrev pub MapValuesHave : Type 0
MapValuesHave = (part : Key → ℕ) (job : JobSpec) (size : ℕ) (files : List (List ℕ)) (split : ℕ) (skips : List ℕ) (p : ℕ) → 0 < size
    → (t : Triple) → Has (map_value part (emitted job size files []) split skips p) t
    ↔ (Has (emitted job size files []) t × (t.name.split ≡ split) × (Has skips t.name.rec → ⊥) × (part t.key ≡ p))

-- what two pieces of a split give, one behind the other, is what both give as one
abbrev pub PiecesJoin : Type 0
PiecesJoin = (job : JobSpec) (size : ℕ) (files : List (List ℕ)) (split : ℕ) (skips : List ℕ) (from mid next : ℕ) → from ≤ mid → mid ≤ next
    → emitted_between job size files split skips from mid ++ emitted_between job size files split skips mid next
    ≡ emitted_between job size files split skips from next

-- a piece of all records gives what the split emits
abbrev pub PiecesAreAll : Type 0
PiecesAreAll = (job : JobSpec) (size : ℕ) (files : List (List ℕ)) (split : ℕ) (skips : List ℕ)
    → emitted_between job size files split skips 0 (length (of_split split (named_records size files)))
    ≡ emitted_in (emitted job size files []) split skips
