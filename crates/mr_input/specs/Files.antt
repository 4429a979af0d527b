-- The files of an input.
use Rattle.std.specs.Prelude.{ℕ, ◌+◌, ◌-◌, ◌/◌, List, [], ◌∷◌, map, sum_by, length, slice_index_or, Vec}
use Rattle.std.specs.Global.{Global}

-- each file as its bytes
abbrev pub contents : List (Vec ℕ Global) → List (List ℕ)
contents files = map (λ f. f.items) files

-- the bytes of all files together
abbrev pub total_size : List (List ℕ) → ℕ
total_size files = sum_by length files

-- a file by its number, and an empty one past the last
abbrev pub nth_file : List (List ℕ) → ℕ → List ℕ
nth_file files i = slice_index_or files i []

-- a file of n bytes is cut into as many splits of `size` bytes as hold them all; the last may be shorter
abbrev pub split_count : ℕ → List ℕ → ℕ
split_count size file = (length file + size - 1) / size

-- the splits of all files
unfoldable pub split_total : ℕ → List (List ℕ) → ℕ
split_total size [] = 0
split_total size (f ∷ fs) = split_count size f + split_total size fs
