-- Places in a list of which those of the first file are stored as offsets, and the others with their files.
use Rattle.std.specs.Prelude.{ℕ, List, map}
use Rattle.mr_bytes.specs.declared.columns.Place.{Place}

-- places in one file, by their offsets
abbrev pub in_file : ℕ → List ℕ → List Place
in_file file offsets = map (λ offset. record { file = file; offset = offset }) offsets

-- what stands for a place past the last
abbrev pub nowhere : Place
nowhere = record { file = 0; offset = 0 }
