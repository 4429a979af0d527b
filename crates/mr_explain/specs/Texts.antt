-- Of no public promise: the text of a key while its values come.
use Rattle.std.specs.Prelude.{◌≡◌, ℕ, List, [], length}
use Rattle.mr_bytes.specs.declared.Value.{Value}
use Rattle.mr_jobs.specs.JobSpec.{JobSpec}
use Rattle.mr_reduce.specs.Writing.{Writes}
use Rattle.mr_explain.specs.declared.group.KeyText.{KeyText}

-- the text of the key for these values, except for its end, and how many they are
pub record HasText (job : JobSpec) (key : List ℕ) (values : List Value) (t : KeyText) : Type 0 where
  pub writes : Writes job key values [] t.writer t.text.items
  pub count : t.count ≡ length values
