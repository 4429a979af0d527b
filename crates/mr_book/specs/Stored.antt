-- Outputs under their numbers.
use Rattle.std.specs.Prelude.{ℕ, List, [], ◌∷◌, ◌++◌, map, Option, Some, None, ◌==◌, if◌then◌else◌}
use Rattle.mr_core.specs.declared.event.Reply.{Reply}
use Rattle.mr_core.specs.declared.event.Reply.TheVariants.{Accepted}

abbrev pub numbers : {V : Type 0} → List (ℕ × V) → List ℕ
numbers stored = map (λ s. s.0) stored

-- the output of this number, where it is stored
abbrev pub stored_at : {V : Type 0} → List (ℕ × V) → ℕ → Option V
stored_at [] number = None
stored_at (s ∷ stored) number = if s.0 == number then Some (s.1) else stored_at stored number

-- an output is stored where it was accepted
abbrev pub stored_by : {V : Type 0} → List (ℕ × V) → ℕ → V → Reply → List (ℕ × V)
stored_by old number output Accepted = old ++ (number, output) ∷ []
stored_by old number output _ = old

-- of no public promise: the outputs with their numbers, and for how many more there is memory
pub record Shelved (V : Type 0) : Type 0 where
  pub outputs : List (ℕ × V)
  pub room : ℕ
