use Rattle.std.proofs.Common.{◌≡◌, take}
use Rattle.mr_merge.specs.Reduction.{IsOfRegions}
use Rattle.mr_task.proofs.reduce.reduce_task.Given as goal

abbrev pub invariant-loop-region : goal.invariant-loop-region
invariant-loop-region l = record {
  partition : l.all.partition ≡ l.partition;
  taken : IsOfRegions (take l.region-index l.regions) l.all;
}
