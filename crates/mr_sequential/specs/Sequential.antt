-- The sequential execution of a job without faults (OSDI 2004, sections 2, 4.1 and 4.2).
use Rattle.std.specs.Prelude.{ℕ, ◌==◌, if◌then◌else◌, List, [], ◌∷◌, map, filter}
use Rattle.std.specs.List.{flat_map}
use Rattle.std.specs.Str.{bytes_eq}
use Rattle.mr_bytes.specs.declared.RecordName.{RecordName}
use Rattle.mr_bytes.specs.declared.Value.{Value}
use Rattle.mr_bytes.specs.Lists.{placed}
use Rattle.mr_bytes.specs.Order.{key_order}
use Rattle.mr_jobs.specs.JobSpec.{RequestSpec}
use Rattle.mr_bytes.specs.Pairs.{Triple}
use Rattle.mr_sequential.specs.Emitted.{emitted}
use Rattle.mr_sequential.specs.Rules.{Key, Text, Rules, rules_of}

-- a key put at its place among rising keys, where it isn't there yet
abbrev pub with_key : Key → List Key → List Key
with_key k keys = placed key_order k keys

-- of keys, those of a partition, rising, each once; `part` gives each key its partition
abbrev pub keys_of : (Key → ℕ) → List Key → ℕ → List Key
keys_of part [] p = []
keys_of part (k ∷ ks) p = if part k == p then with_key k (keys_of part ks p) else keys_of part ks p

-- the triples of a key, in the order of the input
abbrev pub triples_with : List Triple → Key → List Triple
triples_with ts k = filter (λ t. bytes_eq t.key k) ts

-- the values of a key, in the order of the input
abbrev pub values_of : List Triple → Key → List Value
values_of ts k = map (λ t. t.value) (triples_with ts k)

-- the texts of the groups of a partition, by rising key
abbrev pub texts_of : Rules → List Triple → ℕ → Text
texts_of rules ts p = flat_map (λ k. rules.text k (values_of ts k)) (keys_of rules.part (map (λ t. t.key) ts) p)

-- output p of the sequential execution of a job over an input, without the left-out records
abbrev pub sequential : RequestSpec → List (List ℕ) → List RecordName → ℕ → Text
sequential request files skips p = texts_of (rules_of request) (emitted request.job request.split files skips) p
