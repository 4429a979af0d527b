-- What a terminal is shown of bytes: those that it would obey as their numbers, all others as they are.
use Rattle.std.specs.Prelude.{ℕ, ◌+◌, ◌/◌, ◌%◌, ◌==◌, ◌&&◌, ◌||◌, not, nat_lt, if◌then◌else◌, Bool, List, [], ◌∷◌, ◌++◌}

-- the control characters of ASCII, but a line feed where lines are kept, and those of Latin 1, whose second byte
-- follows 0xC2
abbrev pub is_obeyed : Bool → ℕ → ℕ → Bool
is_obeyed lines before b = (nat_lt b 0x20 && not (lines && (b == 0x0A))) || ((b == 0x7F) || ((before == 0xC2) && nat_lt b 0xA0))

abbrev pub hex_digit : ℕ → ℕ
hex_digit n = if nat_lt n 10 then 0x30 + n else 0x57 + n

-- the byte, or its number, as `\x1b` for 0x1B
abbrev pub byte_shown : Bool → ℕ → ℕ → List ℕ
byte_shown lines before b = if is_obeyed lines before b then 0x5C ∷ 0x78 ∷ hex_digit (b / 16) ∷ hex_digit (b % 16) ∷ [] else b ∷ []

-- the bytes of a text, behind that byte
unfoldable pub text_shown : Bool → ℕ → List ℕ → List ℕ
text_shown lines before [] = []
text_shown lines before (b ∷ bs) = byte_shown lines before b ++ text_shown lines b bs
