use Rattle.std.proofs.Common.{◌≡◌, take}
use Rattle.mr_shard_files.specs.Listing.{escaped}
use Rattle.mr_shard_files.proofs.listing.escaped.Given as goal

abbrev pub invariant-loop-byte : goal.invariant-loop-byte
invariant-loop-byte l = l.text.items ≡ escaped (take l.byte-index l.name)
