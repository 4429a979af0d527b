-- The groups of a partition, and how those of two inputs are merged.
use Rattle.std.specs.Prelude.{ℕ, List, [], ◌∷◌, ◌++◌, None, map}
use Rattle.std.specs.List.{flat_map}
use Rattle.std.specs.Ordering.{match_ordering}
use Rattle.mr_bytes.specs.declared.Value.{Value}
use Rattle.mr_bytes.specs.Order.{key_order}
use Rattle.mr_jobs.specs.JobSpec.{JobSpec, group_text_of}
use Rattle.mr_jobs.specs.declared.job.GroupText.{GroupText}
use Rattle.mr_jobs.specs.declared.job.GroupText.TheVariants.{Count, Lines, Files}
use Rattle.mr_reduce.specs.Text.{text_for, text_of}
use Rattle.mr_reduce.specs.Writing.{values_text}
use Rattle.mr_bytes.specs.Pairs.{Triple}
use Rattle.mr_sequential.specs.Sequential.{keys_of, values_of}

-- a key with all its values, in the order of the input
pub record Group : Type 0 where
  pub key : List ℕ
  pub values : List Value

abbrev pub group_for : List Triple → List ℕ → Group
group_for ts k = record { key = k; values = values_of ts k }

-- the groups of a partition, by rising key
abbrev pub groups_of : (List ℕ → ℕ) → List Triple → ℕ → List Group
groups_of part ts p = map (group_for ts) (keys_of part (map (λ t. t.key) ts) p)

-- the text of a group, and of groups one behind another
abbrev pub group_text_for : GroupText → Group → List ℕ
group_text_for form g = text_for form g.key g.values

abbrev pub texts_for : GroupText → List Group → List ℕ
texts_for form gs = flat_map (group_text_for form) gs

-- the texts that a job gives for them
abbrev pub group_text : JobSpec → Group → List ℕ
group_text job g = text_of job g.key g.values

abbrev pub texts : JobSpec → List Group → List ℕ
texts job gs = flat_map (group_text job) gs

-- the text of a group, with the files of an index as its values come: a file again where they fall
abbrev pub written : GroupText → Group → List ℕ
written Count g = group_text_for Count g
written Lines g = group_text_for Lines g
written Files g = (g.key ++ 9 ∷ values_text Files [] None g.values) ++ 10 ∷ []

abbrev pub written_texts : JobSpec → List Group → List ℕ
written_texts job gs = flat_map (written (group_text_of job)) gs

-- two groups of one key: the values of the first before those of the second
abbrev pub joined : Group → Group → Group
joined g h = record { key = g.key; values = g.values ++ h.values }

-- a group put at its place among groups with rising keys, in front of the values of an equal key
abbrev pub with_group : Group → List Group → List Group
with_group g [] = g ∷ []
with_group g (h ∷ hs) = match_ordering (key_order g.key h.key) (g ∷ h ∷ hs) (joined g h ∷ hs) (h ∷ with_group g hs)

-- the groups of both, the first in front
abbrev pub merged : List Group → List Group → List Group
merged [] hs = hs
merged (g ∷ gs) hs = with_group g (merged gs hs)
