-- Parts of the result that are written in pieces.
use Rattle.std.specs.Prelude.{◌≡◌, ℕ, ⊤, List, [], ◌++◌, length, string_bytes}
use Rattle.sha2.specs.Hashers.{Holds256}
use Rattle.mr_files.specs.Holding.{Agrees}
use Rattle.mr_shards.specs.Rounds.{Standing}
use Rattle.mr_store.specs.Devices.{Seen}
use Rattle.mr_shard_files.specs.declared.fault.ShardFault.{ShardFault}
use Rattle.mr_shard_files.specs.declared.fault.ShardFault.TheVariants.{CannotWrite, OutOfMemory}
use Rattle.mr_shard_files.specs.declared.partition.Made.{Made}

-- these bytes are its text: they were written and digested, but for those that are late
pub record HasWritten {W : Type 0} (seen : W → Seen) (bytes : List ℕ) (made : Made W) : Type 0 where
  pub front : List ℕ
  pub is : bytes ≡ front ++ made.late.items
  pub contents : Agrees (seen made.writer).contents front
  pub digest : Holds256 made.hasher front
  pub count : made.length ≡ length front

-- what was late is written
pub record CatchesUp {W : Type 0} (seen : W → Seen) (old new : Made W) : Type 0 where
  pub none_late : new.late.items ≡ []
  pub written : (bytes : List ℕ) → HasWritten seen bytes old → HasWritten seen bytes new

-- a merger gave its text away, and keeps all else
pub record Gives (old new : Standing) : Type 0 where
  pub held : new.held ≡ old.held
  pub waiting : new.waiting ≡ old.waiting
  pub cuts : new.cuts ≡ old.cuts

-- a file of that name can't be written, which happens only so, or memory is wanting
abbrev pub ReportsUnwritten : Type 0 → List ℕ → ShardFault → Type 0
ReportsUnwritten can_fail name (CannotWrite told) = can_fail × (string_bytes told ≡ name)
ReportsUnwritten can_fail name OutOfMemory = ⊤
ReportsUnwritten can_fail name fault = ⊥
