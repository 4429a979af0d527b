use Rattle.std.proofs.Common.{map, string_bytes, take}
use Rattle.mr_shard_files.specs.Sharing.{AreBeside}
use Rattle.mr_shard_files.proofs.sharing.names_read.Given as goal

abbrev pub invariant-loop-shard : goal.invariant-loop-shard
invariant-loop-shard l = AreBeside l.parts (map (λ s. s.now) (take l.shard l.names)) (map string_bytes l.read.items)
