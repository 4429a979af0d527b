-- Of no public promise: the first bytes of a key and its last.
use Rattle.std.specs.Prelude.{◌≡◌, ℕ, ◌-◌, ◌<◌, ◌≤◌, List, ◌++◌, length, take}
use Rattle.std.specs.Int.{w32, w64, to_le_bytes}
use Rattle.mr_group.specs.declared.print.Print.{Print}

-- a key of at most sixteen bytes can be told from its print and its length: it is its last bytes behind those of its first that aren't among them
pub record IsPrint (p : Print) (key : List ℕ) : Type 0 where
  pub long : 8 ≤ length key → length key ≤ 16 → take (length key - 8) (to_le_bytes w64 p.first) ++ to_le_bytes w64 p.last ≡ key
  pub short : 4 ≤ length key → length key < 8 → take (length key - 4) (to_le_bytes w32 p.first) ++ to_le_bytes w32 p.last ≡ key
  pub least : length key < 4 → take (length key) (to_le_bytes w32 p.first) ≡ key
