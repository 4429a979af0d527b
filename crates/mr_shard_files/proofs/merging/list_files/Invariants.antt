use Rattle.std.proofs.Common.{◌≡◌, ◌++◌, drop}
use Rattle.mr_shards.specs.Joined.{inputs_of}
use Rattle.mr_shard_files.specs.Beside.{files_told}
use Rattle.mr_shard_files.proofs.merging.list_files.Given as goal

abbrev pub invariant-loop-shard : goal.invariant-loop-shard
invariant-loop-shard l = record {
  all_are : l.all.items ++ files_told (drop l.shard l.verdicts) ≡ files_told l.verdicts;
  rest_is : l.rest ≡ inputs_of (drop l.shard l.verdicts);
}
