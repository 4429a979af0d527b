-- Values in a list of which those in front that are One are counted, places behind them stored as such, and the rest as it
-- is.
use Rattle.std.specs.Prelude.{◌≡◌, ℕ, List, [], ◌∷◌, ◌++◌, map, replicate, length}
use Rattle.mr_bytes.specs.declared.Value.{Value}
use Rattle.mr_bytes.specs.declared.Value.TheVariants.{One, At}
use Rattle.mr_bytes.specs.declared.columns.Place.{Place}

-- the value that tells a place
abbrev pub at : Place → Value
at place = At place.file place.offset

-- so many times One, then places, and then the rest
abbrev pub column : ℕ → List Place → List Value → List Value
column ones places rest = replicate ones One ++ (map at places ++ rest)

-- each value is One
abbrev pub AreOnes : List Value → Type 0
AreOnes values = values ≡ replicate (length values) One

-- the first value, if there is one, is another than One
abbrev pub BeginsOtherwise : List Value → Type 0
BeginsOtherwise [] = Unit {0}
BeginsOtherwise (One ∷ values) = ⊥
BeginsOtherwise (At file offset ∷ values) = Unit {0}
