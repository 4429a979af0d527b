-- Of no public promise: what a map task has of the pairs that it was given.
use Rattle.std.specs.Prelude.{◌≡◌, ℕ, List, [], ◌∷◌, ◌++◌, ◌⊎◌}
use Rattle.std.specs.List.{AllByRecursion}
use Rattle.mr_bytes.specs.Pairs.{Triple}
use Rattle.mr_merge.specs.Merged.{joined}
use Rattle.mr_partition.specs.Hosts.{partition_by}
use Rattle.mr_spill.specs.Regions.{region}
use Rattle.mr_spill.specs.Sealed.{RunText, SpellsRun}
use Rattle.mr_task.specs.declared.runs.Runs.{Runs}

-- the partition that runs give a key
abbrev pub part_in : Runs → List ℕ → ℕ
part_in runs key = partition_by runs.by key runs.sealed.parts

-- each run spells the regions of its pairs
abbrev pub AreRuns : ℕ → (List ℕ → ℕ) → ℕ → List (List Triple) → List RunText → Type 0
AreRuns split part parts [] [] = Unit {0}
AreRuns split part parts [] (run ∷ runs) = ⊥
AreRuns split part parts (ts ∷ sealed) [] = ⊥
AreRuns split part parts (ts ∷ sealed) (run ∷ runs) = SpellsRun run split parts (region part ts) × AreRuns split part parts sealed runs

-- the pairs are those of the sealed runs, with those that wait in the buffer
pub record HasTaken (pairs : List Triple) (runs : Runs) : Type 0 where
  pub sealed : List (List Triple)
  pub each : AreRuns runs.split (part_in runs) runs.sealed.parts sealed runs.sealed.runs
  pub all : joined sealed ++ runs.buffer.pairs ≡ pairs

-- all pairs are of the split
abbrev pub AreOf : ℕ → List Triple → Type 0
AreOf split ts = AllByRecursion (λ t. t.name.split ≡ split) ts

-- whatever was taken before, these came behind
abbrev pub Takes : List Triple → Runs → Runs → Type 0
Takes more old new = (pairs : List Triple) → HasTaken pairs old → HasTaken (pairs ++ more) new

-- the pair came behind those that waited, or it is the first of a new run
abbrev pub AreNext : Triple → List Triple → List Triple → Type 0
AreNext t old new = (new ≡ old ++ t ∷ []) ⊎ (new ≡ t ∷ [])

-- they are of the same split, and cut by the same partitions
pub record AreAlike (old new : Runs) : Type 0 where
  pub split : new.split ≡ old.split
  pub by : new.by ≡ old.by
  pub parts : new.sealed.parts ≡ old.sealed.parts
