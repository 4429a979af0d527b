-- The values of a key, record by record, and the text that a result has for it.
use Rattle.std.specs.Prelude.{List, [], ◌∷◌, ℕ, map}
use Rattle.std.specs.List.{flat_map}
use Rattle.mr_bytes.specs.declared.Value.{Value}
use Rattle.mr_jobs.specs.JobSpec.{JobSpec}
use Rattle.mr_jobs.specs.Emissions.{Emission}
use Rattle.mr_reduce.specs.Text.{text_of}
use Rattle.mr_splits.specs.Named.{NamedRecord}
use Rattle.mr_explain.specs.Explained.{pairs_of, pairs_with}
use Rattle.mr_sequential.specs.Emitted.{emitted}
use Rattle.mr_sequential.specs.Sequential.{values_of}
use Rattle.mr_explain.specs.declared.query.Query.{Query}
use Rattle.mr_explain.specs.declared.query.Wanted.{Wanted}
use Rattle.mr_explain.specs.declared.query.Wanted.TheVariants.{Key, Nothing}

-- the values of the pairs that have the key
abbrev pub values_with : List ℕ → List Emission → List Value
values_with key es = map (λ e. e.1) (pairs_with key es)

-- those that records give
abbrev pub values_in : JobSpec → List ℕ → List NamedRecord → List Value
values_in job key rs = flat_map (λ r. values_with key (pairs_of job r)) rs

-- the text of a key with its values; a key without values has none
abbrev pub expected_text : JobSpec → List ℕ → List Value → List ℕ
expected_text job key [] = []
expected_text job key (v ∷ vs) = text_of job key (v ∷ vs)

-- the values of the key in all that the job emits without the left-out records
abbrev pub group_values : Query → List ℕ → List Value
group_values q key = values_of (emitted q.job.now q.plan.now.size q.plan.now.files q.skips.now) key

-- where a key is looked for, this holds of it
abbrev pub ForKey : Wanted → (List ℕ → Type 0) → Type 0
ForKey (Key key) P = P key.now
ForKey Nothing P = Unit {0}
