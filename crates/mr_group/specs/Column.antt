-- The keys of pairs by number.
use Rattle.std.specs.Prelude.{ℕ, ◌<◌, ◌≤◌, List, All, length, map}
use Rattle.mr_bytes.specs.Lists.{Has}
use Rattle.mr_group.specs.Interner.{key_at}

-- the keys that numbers stand for
abbrev pub keyed : List (List ℕ) → List ℕ → List (List ℕ)
keyed keys numbers = map (key_at keys) numbers

-- each number is that of a key, and each key has one
pub record AreNumbers (keys : List (List ℕ)) (numbers : List ℕ) : Type 0 where
  pub inside : All (λ i. i < length keys) numbers
  pub used : (i : ℕ) → i < length keys → Has numbers i
  pub few : length keys ≤ length numbers
