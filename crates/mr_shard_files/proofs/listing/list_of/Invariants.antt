use Rattle.std.proofs.Common.{◌≡◌, take}
use Rattle.mr_shard_files.specs.Listing.{listing}
use Rattle.mr_shard_files.proofs.listing.list_of.Given as goal

abbrev pub invariant-loop-range : goal.invariant-loop-range
invariant-loop-range l = l.text.items ≡ listing (take l.range-index l.inputs)
