-- What the keys of a partition and the names of all triples are, in the words of the subject.
use Rattle.std.specs.Prelude.{◌≡◌, ◌↔◌, ℕ, ◌<◌, List, map}
use Rattle.std.specs.List.{flat_map}
use Rattle.mr_bytes.specs.declared.RecordName.{RecordName}
use Rattle.mr_bytes.specs.Lists.{Has, Rises}
use Rattle.mr_bytes.specs.Order.{key_order, name_order}
use Rattle.mr_jobs.specs.JobSpec.{RequestSpec}
use Rattle.mr_bytes.specs.Pairs.{Triple}
use Rattle.mr_sequential.specs.Emitted.{emitted}
use Rattle.mr_sequential.specs.Rules.{Key, Text, Rules, rules_of}
use Rattle.mr_sequential.specs.Sequential.{keys_of, values_of, sequential}

-- the list has just those of the keys that belong to the partition
abbrev pub HasJust : (Key → ℕ) → List Key → ℕ → List Key → Type 0
HasJust part all p keys = (k : Key) → Has keys k ↔ (Has all k × (part k ≡ p))

-- the keys of a partition rise strictly, and are just its keys
abbrev pub KeysRise : Type 0
KeysRise = (part : Key → ℕ) (all : List Key) (p : ℕ) → Rises key_order (keys_of part all p) × HasJust part all p (keys_of part all p)

-- no other list that rises strictly has just those keys
abbrev pub KeysAreUnique : Type 0
KeysAreUnique = (part : Key → ℕ) (all : List Key) (p : ℕ) (keys : List Key)
    → Rises key_order keys → HasJust part all p keys → keys ≡ keys_of part all p

-- the output is the texts of the keys of the partition, by keys that rise strictly
pub record IsInKeyOrder (rules : Rules) (ts : List Triple) (p : ℕ) (output : Text) : Type 0 where
  pub keys : List Key
  pub rise : Rises key_order keys
  pub just : HasJust rules.part (map (λ t. t.key) ts) p keys
  pub joined : output ≡ flat_map (λ k. rules.text k (values_of ts k)) keys

-- so is each output of the sequential execution
abbrev pub OutputsAreInKeyOrder : Type 0
OutputsAreInKeyOrder = (request : RequestSpec) (files : List (List ℕ)) (skips : List RecordName) (p : ℕ)
    → IsInKeyOrder (rules_of request) (emitted request.job request.split files skips) p (sequential request files skips p)

-- the names of all triples rise strictly, whichever records are left out
abbrev pub NamesRise : Type 0
NamesRise = (request : RequestSpec) (files : List (List ℕ)) (skips : List RecordName) → 0 < request.split
    → Rises name_order (map (λ t. t.name) (emitted request.job request.split files skips))
