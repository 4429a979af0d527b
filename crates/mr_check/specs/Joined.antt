-- Of no public promise: outputs, one after another.
use Rattle.std.specs.Prelude.{◌≡◌, ℕ, ◌<◌, List, length, take, slice_index}
use Rattle.std.specs.List.{flat_map}

-- the bytes of all outputs
abbrev pub joined : List (List ℕ) → List ℕ
joined outputs = flat_map (λ output. output) outputs

-- where each output begins among all bytes
pub record AreStarts (outputs : List (List ℕ)) (starts : List ℕ) : Type 0 where
  pub one_each : length starts ≡ length outputs
  pub places : (p : ℕ) → p < length starts → slice_index starts p ≡ length (joined (take p outputs))
