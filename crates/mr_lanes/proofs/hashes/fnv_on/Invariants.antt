use Rattle.std.proofs.Common.{◌≡◌, drop}
use Rattle.mr_lanes.specs.Hashes.{fnv_from}
use Rattle.mr_lanes.proofs.hashes.fnv_on.Given as goal

abbrev pub invariant-loop-byte : goal.invariant-loop-byte
invariant-loop-byte l = fnv_from l.sum (drop l.byte-index l.bytes) ≡ fnv_from l.hash l.bytes
