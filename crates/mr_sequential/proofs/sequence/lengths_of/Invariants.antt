use Rattle.std.proofs.Common.{◌≡◌, length, map, take}
use Rattle.mr_sequential.proofs.sequence.lengths_of.Given as goal

abbrev pub invariant-loop-i : goal.invariant-loop-i
invariant-loop-i l = l.lengths.items ≡ take l.i (map length l.input)
