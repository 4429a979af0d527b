-- Readers and writers over memory.
use Rattle.std.specs.Prelude.{ℕ, ◌-◌, ◌==◌, if◌then◌else◌, Bool, false, Option, Some, None, List}
use Rattle.mr_store.specs.Devices.{Seen}

-- a reader that has these bytes left, gives at most so many a call, fails at a later call, if at any, counted from 1
-- for the next, and has failed so often
pub record Memory : Type 0 where
  pub bytes : List ℕ
  pub most : ℕ
  pub failing : Option ℕ
  pub failed : ℕ

-- a writer that holds these bytes, of them handed on those that it held at its last flush, and is else as the reader;
-- it lacked memory where a call was refused some
pub record WrittenMemory : Type 0 where
  pub bytes : List ℕ
  pub handed_on : List ℕ
  pub most : ℕ
  pub failing : Option ℕ
  pub failed : ℕ
  pub lacked : Bool

-- what is seen of it
abbrev pub seen_of : WrittenMemory → Seen
seen_of w = record { contents = Some w.bytes; handed_on = Some w.handed_on; failed = w.failed }

-- the next call fails
abbrev pub fails_now : Option ℕ → Bool
fails_now None = false
fails_now (Some n) = n == 1

-- when a call fails, behind this one
abbrev pub behind_call : Option ℕ → Option ℕ
behind_call None = None
behind_call (Some n) = if n == 1 then None else Some (n - 1)
