use Rattle.std.proofs.Common.{◌≡◌, map}
use Rattle.std.specs.List.{range_with_len}
use Rattle.mr_partition.specs.Hosts.{partition_by}
use Rattle.mr_spill.specs.Regions.{region}
use Rattle.mr_spill.proofs.regions.cut.Given as goal

abbrev pub invariant-loop-part : goal.invariant-loop-part
invariant-loop-part l = l.regions.items ≡ map (region (λ k. partition_by l.fn.by k l.parts) l.pairs) (range_with_len 0 l.part)
