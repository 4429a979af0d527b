-- A buffer of pairs.
use Rattle.std.specs.Prelude.{ℕ, List}
use Rattle.mr_bytes.specs.Pairs.{Triple}

-- the pairs that it holds, and how many it may hold
pub record Buffered : Type 0 where
  pub limit : ℕ
  pub pairs : List Triple
