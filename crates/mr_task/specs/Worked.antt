-- Worked rows: words of a file `b a b` in one split and one partition.
use Rattle.std.specs.Prelude.{ℕ, List, [], ◌∷◌}
use Rattle.mr_bytes.specs.declared.Name.{Name}
use Rattle.mr_bytes.specs.declared.Value.TheVariants.{One}
use Rattle.mr_bytes.specs.Pairs.{Triple}
use Rattle.mr_task.specs.Values.{Reduced}

-- every key in partition 0
abbrev pub only_partition : List ℕ → ℕ
only_partition key = 0

-- name of record 0 of split 0, at a place
abbrev pub at : ℕ → Name
at place = record { split = 0; rec = 0; place = place }

-- the key `a` or `b` at a place
abbrev pub letter : ℕ → ℕ → Triple
letter byte place = record { key = byte ∷ []; value = One; name = at place }

-- b a b, as they are emitted
abbrev pub emitted_letters : List Triple
emitted_letters = letter 98 0 ∷ letter 97 1 ∷ letter 98 2 ∷ []

-- and as the map task has them
abbrev pub letters : List Triple
letters = letter 97 1 ∷ letter 98 0 ∷ letter 98 2 ∷ []

-- the regions of two runs, the first of two pairs
abbrev pub first_run : List Triple
first_run = letter 97 1 ∷ letter 98 0 ∷ []

abbrev pub second_run : List Triple
second_run = letter 98 2 ∷ []

-- a TAB 1 LF, b TAB 2 LF, and the names of both groups
abbrev pub letters_reduced : Reduced
letters_reduced = record { output = 97 ∷ 9 ∷ 49 ∷ 10 ∷ 98 ∷ 9 ∷ 50 ∷ 10 ∷ []; groups = (at 1 ∷ []) ∷ (at 0 ∷ at 2 ∷ []) ∷ [] }
