use Rattle.std.proofs.Common.{◌≡◌, ◌++◌, map, take}
use Rattle.std.specs.List.{AllByRecursion}
use Rattle.mr_shards.specs.Joined.{IsNearSpot}
use Rattle.mr_shards.specs.Spots.{shifted_spot}
use Rattle.mr_shards.proofs.joining.add_spots.Given as goal

abbrev pub invariant-loop-spot : goal.invariant-loop-spot
invariant-loop-spot l = record {
  added : l.spots.items ≡ l.fn.spots.items ++ map (shifted_spot l.shift) (take l.spot-index l.more);
  near : AllByRecursion IsNearSpot (map (shifted_spot l.shift) (take l.spot-index l.more));
}
