-- Of no public promise: bytes that are put behind a text, or not for want of memory.
use Rattle.std.specs.Prelude.{◌≡◌, ℕ, ◌+◌, ◌<◌, ◌≤◌, ◌++◌, List, OnErr, OnOk, Result, Vec, length, take, vec_capacity, vec_len}
use Rattle.std.specs.declared.alloc.AllocError.{AllocError}
use Rattle.std.specs.Global.{Global}

-- the text now ends with the bytes; if memory was wanting, the text before is there, and had no room for all of them
pub record Appends {X : Type 0} (result : Result X AllocError) (old new : Vec ℕ Global) (bytes : List ℕ) : Type 0 where
  pub kept : take (vec_len old) new.items ≡ old.items
  pub ok : OnOk result (new.items ≡ old.items ++ bytes)
  pub full : OnErr result (vec_capacity old < vec_len old + length bytes)
  pub capacity : vec_capacity old ≤ vec_capacity new
