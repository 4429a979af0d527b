-- What is read off a master's state.
use Rattle.std.specs.Prelude.{ℕ, Option, Some, None, List, [], slice_get}
use Rattle.mr_core.specs.declared.entries.Split.{Split}
use Rattle.mr_core.specs.Master.{State}

abbrev pub number_of : Option (ℕ × ℕ) → Option ℕ
number_of None = None
number_of (Some o) = Some (o.0)

abbrev pub split_output : Option Split → Option ℕ
split_output None = None
split_output (Some sp) = number_of sp.output

-- the output of a split, where it has one
abbrev pub output_of : State → ℕ → Option ℕ
output_of st s = split_output (slice_get st.splits s)

abbrev pub part_output : Option (Option ℕ) → Option ℕ
part_output None = None
part_output (Some o) = o

-- the output that is committed for a partition, where one is
abbrev pub committed_of : State → ℕ → Option ℕ
committed_of st p = part_output (slice_get st.committed p)

abbrev pub split_set : Option Split → List ℕ
split_set None = []
split_set (Some sp) = sp.skips

-- the records left out of a split so far
abbrev pub set_of : State → ℕ → List ℕ
set_of st s = split_set (slice_get st.splits s)
