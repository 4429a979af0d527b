use Rattle.std.proofs.Common.{◌≡◌, take}
use Rattle.std.specs.List.{AllByRecursion}
use Rattle.mr_bytes.specs.Lists.{Rises}
use Rattle.mr_bytes.specs.Pairs.{pair_order}
use Rattle.mr_merge.specs.Merged.{joined, values_of}
use Rattle.mr_merge.proofs.merged.merge.Given as goal

abbrev pub invariant-loop-region : goal.invariant-loop-region
invariant-loop-region l = record {
  rise : AllByRecursion (Rises pair_order) (values_of (take l.region-index l.regions));
  all : l.all ≡ joined (values_of (take l.region-index l.regions));
}
