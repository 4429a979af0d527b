use Rattle.std.proofs.Common.{map, take}
use Rattle.mr_shards.specs.RangeNotes.{names_of}
use Rattle.mr_shards.proofs.SeenLemmas.{AreSeen}
use Rattle.mr_shards.proofs.joining.first_repeat.Given as goal

abbrev pub invariant-loop-at : goal.invariant-loop-at
invariant-loop-at l = AreSeen (map (λ k. k.now) l.seen.keys) (names_of (take l.at l.ranges))
