-- Where the regions of a map task's output lie.
use Rattle.std.specs.Prelude.{ℕ, ◌+◌, ◌*◌, ◌/◌, List, length, slice_index_or}
use Rattle.mr_task.specs.declared.output.Place.{Place}

-- how many partitions there are, who put the regions, and their numbers: run by run, and in a run by partition
pub record Laid : Type 0 where
  pub parts : ℕ
  pub worker : ℕ
  pub numbers : List ℕ

-- how many runs have all their regions
abbrev pub runs_of : Laid → ℕ
runs_of s = length s.numbers / s.parts

-- where the region of a partition lies that a run has, both from 0
abbrev pub place_at : Laid → ℕ → ℕ → Place
place_at s p i = record { worker = s.worker; number = slice_index_or s.numbers (i * s.parts + p) 0 }
