-- What a line of a script spells.
use Rattle.std.specs.Prelude.{◌≡◌, ◌⊎◌, ℕ, ◌^◌, ◌<◌, ◌≤◌, List, [], ◌∷◌, ◌++◌, length, slice_index, codes}
use Rattle.std.specs.Str.Parse.{IsNumeral, digits_value}
use Rattle.mr_script.specs.declared.script.Directive.{Directive}
use Rattle.mr_script.specs.declared.script.Directive.TheVariants.{Lose, Zombie, Bad, Flaky, Hold, Spoil, Damage}

-- a word of a line: a fixed one, or one that spells a number
pub data Word : Type 0 where
  Fixed : List ℕ → Word
  Number : ℕ → Word

-- the words of a directive, in order
abbrev pub words_of : Directive → List Word
words_of (Lose worker after) = Fixed (codes "lose") ∷ Number worker ∷ Fixed (codes "after") ∷ Number after ∷ []
words_of (Zombie worker after) = Fixed (codes "zombie") ∷ Number worker ∷ Fixed (codes "after") ∷ Number after ∷ []
words_of (Bad split rec) = Fixed (codes "bad") ∷ Number split ∷ Number rec ∷ []
words_of (Flaky split rec attempts) = Fixed (codes "flaky") ∷ Number split ∷ Number rec ∷ Number attempts ∷ []
words_of (Hold worker) = Fixed (codes "hold") ∷ Number worker ∷ []
words_of (Spoil partition place) = Fixed (codes "spoil") ∷ Number partition ∷ Number place ∷ []
words_of (Damage split partition place) = Fixed (codes "damage") ∷ Number split ∷ Number partition ∷ Number place ∷ []

-- 1 to 10 decimal digits that write n, which fits in 32 bits
pub record SpellsNumber (bytes : List ℕ) (n : ℕ) : Type 0 where
  pub digits : IsNumeral 10 bytes
  pub few : length bytes ≤ 10
  pub value : digits_value 10 bytes ≡ n
  pub small : n < 2 ^ 32

abbrev pub SpellsWord : List ℕ → Word → Type 0
SpellsWord bytes (Fixed word) = bytes ≡ word
SpellsWord bytes (Number n) = SpellsNumber bytes n

-- the words one behind another, a single space between each two
abbrev pub SpellsWords : List ℕ → List Word → Type 0
SpellsWords line [] = line ≡ []
SpellsWords line (w ∷ []) = SpellsWord line w
SpellsWords line (w ∷ v ∷ ws) = (first : List ℕ) × (rest : List ℕ) × (line ≡ first ++ 0x20 ∷ rest) × SpellsWord first w × SpellsWords rest (v ∷ ws)

-- the line is the words of the directive
abbrev pub SpellsLine : List ℕ → Directive → Type 0
SpellsLine line d = SpellsWords line (words_of d)

-- the line is empty, or begins with `#`
abbrev pub SaysNothing : List ℕ → Type 0
SaysNothing line = (length line ≡ 0) ⊎ (slice_index line 0 ≡ 0x23)

-- the line says nothing or spells a directive; otherwise it is bad
abbrev pub Stands : List ℕ → Type 0
Stands line = SaysNothing line ⊎ ((d : Directive) × SpellsLine line d)
