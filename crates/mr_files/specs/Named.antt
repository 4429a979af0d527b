-- What can be seen of a reader that keeps the name of its file.
use Rattle.std.specs.Prelude.{ℕ, Bool, List}

-- the name, the reader, how many reads have failed, and whether one was refused memory
pub record Named (R : Type 0) : Type 0 where
  pub name : List ℕ
  pub reader : R
  pub failed : ℕ
  pub lacked : Bool
