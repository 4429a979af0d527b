-- Of no public promise: what pairs have beside their keys.
use Rattle.std.specs.Prelude.{◌≡◌, ◌<◌, ℕ, List, length, map, slice_index_or}
use Rattle.std.specs.List.{zip}
use Rattle.mr_bytes.specs.declared.Name.{Name}
use Rattle.mr_bytes.specs.declared.Value.{Value}
use Rattle.mr_bytes.specs.declared.Value.TheVariants.{One}
use Rattle.mr_bytes.specs.Pairs.{Triple}

-- what a pair has beside its key
abbrev pub Entry : Type 0
Entry = Value × Name

-- an entry that stands for none, and that at a place, from 0
abbrev pub nth_entry : List Entry → ℕ → Entry
nth_entry es i = slice_index_or es i (One, record { split = 0; rec = 0; place = 0 })

-- the pair of an entry under a key
abbrev pub under_key : List ℕ → Entry → Triple
under_key key e = record { key = key; value = e.0; name = e.1 }

-- keys and, in the same order, what stands beside each, as pairs
abbrev pub beside : List (List ℕ) → List Entry → List Triple
beside keys entries = map (λ e. under_key e.0 e.1) (zip keys entries)

-- each has the value `One`
abbrev pub HaveOnes : List Entry → Type 0
HaveOnes es = (i : ℕ) → i < length es → (nth_entry es i).0 ≡ One
