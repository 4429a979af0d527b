use Rattle.std.proofs.Common.{◌≡◌, ◌-◌, ℕ, List, length, false}
use Rattle.mr_certform.specs.Streaming.{stream, IsToCome}
use Rattle.mr_certform.proofs.stream.StreamWalker.fill.Given as goal

abbrev pub invariant-loop-self : goal.invariant-loop-self
invariant-loop-self g l = record {
  bytes : (bytes : List ℕ) → IsToCome (stream g.R.CountedRead.remaining l.self) bytes → IsToCome (stream g.R.CountedRead.remaining l.initial.self) bytes;
  version : l.self.version ≡ l.initial.self.version;
  place : l.self.place ≡ l.initial.self.place;
  passed : l.self.passed ≡ l.initial.self.passed;
  fault : l.self.fault ≡ l.initial.self.fault;
  more : l.self.exhausted ≡ false;
  count : g.R.CountedRead.failed l.self.reader ≡ g.R.CountedRead.failed l.initial.self.reader;
  later : g.R.CountedRead.can_fail l.self.reader → g.R.CountedRead.can_fail l.initial.self.reader;
}

abbrev pub decreases-loop-self : goal.decreases-loop-self
decreases-loop-self g l = 15 - length l.self.held
