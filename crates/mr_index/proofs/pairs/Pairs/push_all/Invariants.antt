use Rattle.std.proofs.Common.{◌≡◌, ◌++◌, length}
use Rattle.mr_index.specs.Pairs.{pairs_seen, Sound}
use Rattle.mr_index.proofs.pairs.Pairs.push_all.Given as goal

abbrev pub invariant-loop-key : goal.invariant-loop-key
invariant-loop-key l = record {
  sound : Sound l.self;
  pairs : pairs_seen l.self ++ l.emitter ≡ pairs_seen l.fn.self ++ l.initial.emitter;
}

abbrev pub decreases-loop-key : goal.decreases-loop-key
decreases-loop-key l = length l.emitter
