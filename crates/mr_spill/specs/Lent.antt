-- Regions as bytes that someone lends.
use Rattle.std.specs.Prelude.{ℕ, List}

-- bytes, and the split that they are told to be of
pub record RegionText : Type 0 where
  pub split : ℕ
  pub bytes : List ℕ
