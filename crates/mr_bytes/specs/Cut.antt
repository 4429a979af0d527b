-- Bytes cut at the first one that is a mark.
use Rattle.std.specs.Prelude.{◌≢◌, ℕ, ◌==◌, if◌then◌else◌, List, [], ◌∷◌, Option, None, Some}

-- the byte stands nowhere among the bytes
abbrev pub Lacks : ℕ → List ℕ → Type 0
Lacks mark [] = Unit {0}
Lacks mark (b ∷ bs) = (b ≢ mark) × Lacks mark bs

-- one more byte in front of the first part
abbrev pub with_front : ℕ → Option (List ℕ × List ℕ) → Option (List ℕ × List ℕ)
with_front b None = None
with_front b (Some parts) = Some (b ∷ parts.0, parts.1)

-- the bytes before the first mark, and those behind it
unfoldable pub cut : ℕ → List ℕ → Option (List ℕ × List ℕ)
cut mark [] = None
cut mark (b ∷ bs) = if b == mark then Some ([], bs) else with_front b (cut mark bs)
