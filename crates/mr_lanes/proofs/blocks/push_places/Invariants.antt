use Rattle.std.proofs.Common.{◌≡◌, ◌++◌}
use Rattle.mr_lanes.specs.Bits.{set_bits, Extends}
use Rattle.mr_lanes.proofs.blocks.push_places.Given as goal

abbrev pub invariant-loop-rest : goal.invariant-loop-rest
invariant-loop-rest l = record {
  all : l.places.items ++ set_bits 64 l.base l.rest ≡ l.fn.places.items ++ set_bits 64 l.base l.bits;
  kept : Extends l.fn.places.items l.places.items;
}

abbrev pub decreases-loop-rest : goal.decreases-loop-rest
decreases-loop-rest l = l.rest
