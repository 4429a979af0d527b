use Rattle.std.proofs.Common.{ℕ, List}
use Rattle.mr_shard_files.specs.Streams.{Moves, unread}
use Rattle.mr_shard_files.proofs.stream.Part.finish.Given as goal

abbrev pub invariant-loop-self : goal.invariant-loop-self
invariant-loop-self g l = (passed : List ℕ) × Moves g.R.CountedRead.remaining g.R.CountedRead.can_fail passed l.initial.self l.self

abbrev pub decreases-loop-self : goal.decreases-loop-self
decreases-loop-self g l = unread l.self
