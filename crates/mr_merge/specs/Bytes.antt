-- Regions of one partition as bytes.
use Rattle.std.specs.Prelude.{ℕ, List, [], ◌∷◌}
use Rattle.mr_bytes.specs.Pairs.{Triple}
use Rattle.mr_spill.specs.Lent.{RegionText}
use Rattle.mr_spill.specs.Spelling.{SpellsRegion}

-- each of the regions spells its list of pairs
abbrev pub AreSpelled : ℕ → List RegionText → List (List Triple) → Type 0
AreSpelled partition [] [] = Unit {0}
AreSpelled partition [] (ts ∷ values) = ⊥
AreSpelled partition (r ∷ regions) [] = ⊥
AreSpelled partition (r ∷ regions) (ts ∷ values) = SpellsRegion r.bytes r.split partition ts × AreSpelled partition regions values
