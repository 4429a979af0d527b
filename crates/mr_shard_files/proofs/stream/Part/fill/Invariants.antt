use Rattle.std.proofs.Common.{[]}
use Rattle.mr_shard_files.specs.Streams.{Moves, unread}
use Rattle.mr_shard_files.proofs.stream.Part.fill.Given as goal

abbrev pub invariant-loop-self : goal.invariant-loop-self
invariant-loop-self g l = Moves g.R.CountedRead.remaining g.R.CountedRead.can_fail [] l.initial.self l.self

abbrev pub decreases-loop-self : goal.decreases-loop-self
decreases-loop-self g l = unread l.self
