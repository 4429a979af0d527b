-- What the text of a group rests on.
use Rattle.std.specs.Prelude.{◌≡◌, ◌↔◌, ℕ, List, IsTrue, length}
use Rattle.std.specs.Ordering.{nat_cmp}
use Rattle.mr_bytes.specs.Lists.{Has, Rises}
use Rattle.mr_bytes.specs.declared.Value.{Value}
use Rattle.mr_bytes.specs.declared.Value.TheVariants.{At}
use Rattle.mr_jobs.specs.JobSpec.{JobSpec, counts}
use Rattle.mr_reduce.specs.Text.{files_of, text_of, total_line}

-- a job that counts tells the key with the number of its values
abbrev pub CountersTellTheNumber : Type 0
CountersTellTheNumber = (job : JobSpec) (key : List ℕ) (values : List Value) → IsTrue (counts job) → text_of job key values ≡ total_line key (length values)

-- the files of values rise, so each stands once
abbrev pub FilesRise : Type 0
FilesRise = (values : List Value) → Rises nat_cmp (files_of values)

-- they are just those in which a value tells a place
abbrev pub FilesAreTold : Type 0
FilesAreTold = (values : List Value) (file : ℕ) → Has (files_of values) file ↔ ((offset : ℕ) × Has values (At file offset))
