use Rattle.std.proofs.Common.{◌≡◌, length, take}
use Rattle.std.specs.List.{AllByRecursion}
use Rattle.mr_shard_files.proofs.merging.join_once.Given as goal

abbrev pub invariant-loop-shard : goal.invariant-loop-shard
invariant-loop-shard l = AllByRecursion (λ v. length v.outputs ≡ l.request.parts) (take l.shard l.verdicts)
