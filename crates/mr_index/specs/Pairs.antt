-- Of no public promise: keys with their values, kept flat.
use Rattle.std.specs.Prelude.{◌≡◌, ℕ, ◌-◌, ◌≤◌, ◌<◌, ◌^◌, List, [], ◌∷◌, ◌++◌, slice_range, length, replicate, sum_by}
use Rattle.mr_bytes.specs.declared.Value.{Value}
use Rattle.mr_jobs.specs.Emissions.{Emission}
use Rattle.mr_index.specs.declared.pairs.Pairs.{Pairs}

-- the keys, each from the end of the one before, with their values
abbrev pub pairs_from : ℕ → List ℕ → List ℕ → List Value → List Emission
pairs_from at keys [] values = []
pairs_from at keys (e ∷ ends) [] = []
pairs_from at keys (e ∷ ends) (v ∷ values) = (slice_range keys at e, v) ∷ pairs_from e keys ends values

-- the ends rise from `at` to `last`
abbrev pub EndsRise : ℕ → ℕ → List ℕ → Type 0
EndsRise at last [] = at ≡ last
EndsRise at last (e ∷ ends) = (at ≤ e) × EndsRise e last ends

-- the pairs that are kept
abbrev pub pairs_seen : Pairs → List Emission
pairs_seen p = pairs_from 0 p.keys.items p.ends.items p.values

-- the last key ends with the bytes, and each key has a value
pub record Sound (p : Pairs) : Type 0 where
  pub rise : EndsRise 0 (length p.keys.items) p.ends.items
  pub values : length p.values ≡ length p.ends.items

-- how many bytes their keys have together
abbrev pub keys_size : List Emission → ℕ
keys_size es = sum_by (λ e. length e.0) es

-- a number of four bytes serves for how many they are, and for the bytes of their keys
abbrev pub Fits : List Emission → Type 0
Fits es = (length es < 2 ^ 32) × (keys_size es < 2 ^ 32)

-- the ends, with `end` behind them until there are `count`
abbrev pub filled : ℕ → ℕ → List ℕ → List ℕ
filled count end ends = ends ++ replicate (count - length ends) end
