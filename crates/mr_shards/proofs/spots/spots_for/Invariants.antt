use Rattle.std.proofs.Common.{◌≡◌, map, take}
use Rattle.mr_splits.specs.Named.{named_records}
use Rattle.mr_shards.proofs.NameSpotLemmas.{spot_named}
use Rattle.mr_shards.proofs.spots.spots_for.Given as goal

abbrev pub invariant-loop-name : goal.invariant-loop-name
invariant-loop-name l = l.spots.items ≡ map (spot_named (named_records l.request.split l.input)) (take l.name-index l.skips)
