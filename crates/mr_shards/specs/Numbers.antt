-- Numbers at the front of a text.
use Rattle.std.specs.Prelude.{◌≡◌, ℕ, ◌+◌, ◌*◌, ◌<◌, ◌≤◌, ◌^◌, List, [], ◌∷◌, ◌++◌, decimal}

-- no digit comes
abbrev pub EndsDigits : List ℕ → Type 0
EndsDigits [] = Unit {0}
EndsDigits (b ∷ bs) = 48 ≤ b → b ≤ 57 → ⊥

-- the text begins with a number that fits in 64 bits, and no digit is behind it
pub record BeginsWith (text : List ℕ) (n : ℕ) (rest : List ℕ) : Type 0 where
  pub is : text ≡ decimal n ++ rest
  pub small : n < 2 ^ 64
  pub ends : EndsDigits rest

-- the text is cut behind a number; where it begins with one, that is the one
pub record IsCutBehind (text : List ℕ) (n : ℕ) (rest : List ℕ) : Type 0 where
  pub is : text ≡ decimal n ++ rest
  pub small : n < 2 ^ 64
  pub one : (m : ℕ) (more : List ℕ) → BeginsWith text m more → (m ≡ n) × (more ≡ rest)

-- a digit comes, and with it the number is this
abbrev pub IsWithDigit : ℕ → List ℕ → ℕ → Type 0
IsWithDigit value [] next = ⊥
IsWithDigit value (b ∷ bs) next = (48 ≤ b) × (b ≤ 57) × (next + 48 ≡ value * 10 + b)

-- none comes, or the number with it doesn't fit in 64 bits
abbrev pub NoDigitFits : ℕ → List ℕ → Type 0
NoDigitFits value [] = Unit {0}
NoDigitFits value (b ∷ bs) = 48 ≤ b → b ≤ 57 → 2 ^ 64 + 48 ≤ value * 10 + b
