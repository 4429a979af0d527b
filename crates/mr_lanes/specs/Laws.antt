-- What the definitions of line ends and of differences mean.
use Rattle.std.specs.Prelude.{◌≡◌, ◌≢◌, ◌↔◌, ℕ, ◌+◌, ◌<◌, ◌≤◌, List, [], ◌∷◌, None, MatchOption, length, slice_index, take, drop}
use Rattle.mr_bytes.specs.Lists.{Has}
use Rattle.mr_lanes.specs.Lines.{line_ends}
use Rattle.mr_lanes.specs.Difference.{first_difference}

-- a line end is a place at which a line feed stands
abbrev pub LineEndsAreLineFeeds : Type 0
LineEndsAreLineFeeds = (bytes : List ℕ) (at : ℕ) → Has (line_ends bytes) at ↔ ((at < length bytes) × (slice_index bytes at ≡ 0x0A))

-- the first place is `at` or later, and each other one is behind the one before
abbrev pub RisesFrom : ℕ → List ℕ → Type 0
RisesFrom at [] = Unit {0}
RisesFrom at (x ∷ xs) = (at ≤ x) × RisesFrom (x + 1) xs

abbrev pub LineEndsRise : Type 0
LineEndsRise = (bytes : List ℕ) → RisesFrom 0 (line_ends bytes)

-- equal texts, and no others, have no difference
abbrev pub NoDifferenceWhereEqual : Type 0
NoDifferenceWhereEqual = (a b : List ℕ) → (first_difference a b ≡ None) ↔ (a ≡ b)

-- their first bytes differ, or just one is empty
abbrev pub Part : List ℕ → List ℕ → Type 0
Part [] [] = ⊥
Part [] (y ∷ ys) = Unit {0}
Part (x ∷ xs) [] = Unit {0}
Part (x ∷ xs) (y ∷ ys) = x ≢ y

-- before the first difference the texts agree, and there they part
abbrev pub AgreeUpToTheDifference : Type 0
AgreeUpToTheDifference = (a b : List ℕ) → MatchOption (first_difference a b) (Unit {0}) (λ at. (take at a ≡ take at b) × Part (drop at a) (drop at b))
