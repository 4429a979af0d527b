-- Bytes with a bit changed, as a spoiled output has them.
use Rattle.std.specs.Prelude.{ℕ, zero, suc, ◌+◌, ◌-◌, ◌%◌, ◌==◌, if◌then◌else◌, List, [], ◌∷◌}

-- a byte with its lowest bit changed
abbrev pub with_other_bit : ℕ → ℕ
with_other_bit b = if b % 2 == 0 then b + 1 else b - 1

-- bytes with the lowest bit of that at this place changed, where one stands there
abbrev pub flipped : ℕ → List ℕ → List ℕ
flipped place [] = []
flipped zero (b ∷ bs) = with_other_bit b ∷ bs
flipped (suc place) (b ∷ bs) = b ∷ flipped place bs
