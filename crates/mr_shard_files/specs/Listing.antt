-- The inputs as a list that a user means, whole files in the form that `sha256sum` writes.
use Rattle.std.specs.Prelude.{◌≡◌, ◌≢◌, ℕ, ◌+◌, ◌==◌, ◌&&◌, if◌then◌else◌, List, [], ◌∷◌, ◌++◌, Option, IfSome, count_by, decimal, take}
use Rattle.std.specs.List.{common_prefix_len, flat_map}
use Rattle.std.specs.Str.{bytes_eq}
use Rattle.hex.specs.Hex.{encode_lower}
use Rattle.mr_files.specs.Holding.{Stored}
use Rattle.mr_shards.specs.RangeNotes.{RangeNote}

-- a backslash, a line feed and a carriage return are written as `\\`, `\n` and `\r`
abbrev pub escaped_byte : ℕ → List ℕ
escaped_byte b = if b == 92 then 92 ∷ 92 ∷ [] else (if b == 10 then 92 ∷ 110 ∷ [] else (if b == 13 then 92 ∷ 114 ∷ [] else b ∷ []))

abbrev pub escaped : List ℕ → List ℕ
escaped name = flat_map escaped_byte name

-- a line begins with a backslash where its name is written otherwise than it is
abbrev pub mark_of : List ℕ → List ℕ
mark_of name = if bytes_eq (escaped name) name then [] else 92 ∷ []

-- before the name of a whole file stands a space; before that of another range, where it begins and ends, as `FROM:TO`, and
-- a space
abbrev pub stretch_told : RangeNote → List ℕ
stretch_told n = if (n.from == 0) && n.ends then 32 ∷ [] else decimal n.from ++ 58 ∷ (decimal (n.from + n.length) ++ 32 ∷ [])

-- an input on a line: the digest as hexadecimal digits, a space, which range it is, and the name
abbrev pub listed_line : RangeNote → List ℕ
listed_line n = mark_of n.name ++ encode_lower n.digest ++ 32 ∷ (stretch_told n ++ escaped n.name ++ 10 ∷ [])

-- all inputs, in their order
abbrev pub listing : List RangeNote → List ℕ
listing notes = flat_map listed_line notes

-- where a list is named, the text under its name is that of these inputs
abbrev pub IsListed : Stored → Option (List ℕ) → List RangeNote → Type 0
IsListed holds list notes = IfSome list (λ name. holds name (listing notes))

-- the texts differ first in that line, from 0: so many line feeds stand in their longest common beginning
abbrev pub DifferIn : List ℕ → List ℕ → ℕ → Type 0
DifferIn given told line = (given ≢ told) × (line ≡ count_by (λ b. b == 10) (take (common_prefix_len (λ a b. a == b) given told) given))
