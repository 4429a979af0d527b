-- Of no public promise: groups of several partitions, one partition behind another.
use Rattle.std.specs.Prelude.{◌≡◌, ℕ, ◌<◌, ◌≤◌, ◌==◌, List, filter, length}
use Rattle.std.specs.List.{flat_map}
use Rattle.mr_bytes.specs.Pairs.{Triple}
use Rattle.mr_group.specs.declared.rows.Row.{Row}
use Rattle.mr_group.specs.Rows.{nth_row}
use Rattle.mr_spill.specs.declared.groups.Cut.{Cut}
use Rattle.mr_spill.specs.Groups.{AreWithin, pairs_of, piece}
use Rattle.mr_spill.specs.Regions.{region}

-- the rows of the partition that begin at a place end here
pub record IsEndOf (rows : List Row) (part from end : ℕ) : Type 0 where
  pub order : from ≤ end
  pub within : end ≤ length rows
  pub own : (i : ℕ) → from ≤ i → i < end → (nth_row rows i).part ≡ part
  pub other : end < length rows → (nth_row rows end).part ≡ part → ⊥

-- and here those of each partition
pub record AreRowsOf (rows : List Row) (parts : ℕ) (ends : List ℕ) : Type 0 where
  pub count : length ends ≡ parts
  pub within : AreWithin (length rows) ends
  pub each : (p : ℕ) → p < parts → piece rows ends p ≡ filter (λ r. r.part == p) rows

-- the groups of each partition have the pairs of its region
pub record AreCut (part : List ℕ → ℕ) (parts : ℕ) (ts : List Triple) (cut : Cut) : Type 0 where
  pub count : length cut.ends.items ≡ parts
  pub within : AreWithin (length cut.groups) cut.ends.items
  pub each : (p : ℕ) → p < parts → flat_map pairs_of (piece cut.groups cut.ends.items p) ≡ region part ts p
