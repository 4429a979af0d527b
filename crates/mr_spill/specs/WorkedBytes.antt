-- Worked regions as bytes: of `b a b` in one split and one partition, in runs of two pairs.
use Rattle.std.specs.Prelude.{◌≡◌, ℕ, List, [], ◌∷◌, length}
use Rattle.mr_bytes.specs.declared.Value.TheVariants.{One}
use Rattle.mr_bytes.specs.Pairs.{Triple}
use Rattle.mr_spill.specs.Spelling.{SpellsRegion, region_bytes}

-- the word of one byte at a place of record 0 of split 0
abbrev pub letter : ℕ → ℕ → Triple
letter byte place = record { key = byte ∷ []; value = One; name = record { split = 0; rec = 0; place = place } }

-- one `a` at place 0
abbrev pub WorkedRegion : Type 0
WorkedRegion = region_bytes 0 0 (letter 0x61 0 ∷ [])
    ≡ 0x4d ∷ 0x52 ∷ 0x52 ∷ 0x45 ∷ 0x47 ∷ 0x4e ∷ 0x31 ∷ 0x0a ∷ 0 ∷ 0 ∷ 0 ∷ 0 ∷ 0 ∷ 0 ∷ 0 ∷ 0 ∷ 0 ∷ 0 ∷ 0 ∷ 1
    ∷ 0 ∷ 0 ∷ 0 ∷ 1 ∷ 0x61 ∷ 0 ∷ 0 ∷ 0 ∷ 0 ∷ 0 ∷ 0 ∷ 0 ∷ 0 ∷ 0 ∷ 0 ∷ 0 ∷ 0 ∷ 0 ∷ []

-- the first run has `a` and `b`, the second `b`; a run without pairs of the partition gives a region too
abbrev pub first_run : List Triple
first_run = letter 0x61 1 ∷ letter 0x62 0 ∷ []

abbrev pub second_run : List Triple
second_run = letter 0x62 2 ∷ []

abbrev pub WorkedSizes : Type 0
WorkedSizes = (length (region_bytes 0 0 first_run) ≡ 56) × (length (region_bytes 0 0 second_run) ≡ 38) × (length (region_bytes 0 0 []) ≡ 20)

-- pairs that don't rise have no spelling
abbrev pub WorkedFalling : Type 0
WorkedFalling = (bytes : List ℕ) → SpellsRegion bytes 0 0 (letter 0x62 0 ∷ letter 0x61 1 ∷ []) → ⊥

-- nor has a region of another split
abbrev pub WorkedOther : Type 0
WorkedOther = (bytes : List ℕ) → SpellsRegion bytes 1 0 second_run → ⊥
