use Rattle.std.proofs.Common.{◌≡◌, length, slice_range}
use Rattle.std.specs.List.{flat_map}
use Rattle.mr_spill.specs.Groups.{pairs_of}
use Rattle.mr_spill.proofs.sealed.size_of.Given as goal

abbrev pub invariant-loop-g : goal.invariant-loop-g
invariant-loop-g l = l.count ≡ length (flat_map pairs_of (slice_range l.groups l.begin l.g))
