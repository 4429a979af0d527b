-- Of no public promise: bits that stand for names.
use Rattle.std.specs.Prelude.{◌≡◌, ℕ, ◌+◌, ◌-◌, ◌*◌, ◌/◌, ◌%◌, ◌^◌, List, slice_index_or}
use Rattle.std.specs.Int.{bit_at}
use Rattle.mr_bytes.specs.declared.Name.{Name}
use Rattle.mr_merge.specs.declared.distinct.Grid.{Grid}

-- the record and the place of a name, in one number
abbrev pub packed : Name → ℕ
packed n = n.rec * 4294967296 + n.place

-- the bit of a name
abbrev pub bit_of : Grid → ℕ → ℕ
bit_of g name = ((name / 2 ^ 32 - g.first) * g.places % 2 ^ 64 + name % 2 ^ 32) % 2 ^ 64

-- the bit is set
abbrev pub IsSet : List ℕ → ℕ → Type 0
IsSet words bit = bit_at (slice_index_or words (bit / 64) 0) (bit % 64) ≡ 1
