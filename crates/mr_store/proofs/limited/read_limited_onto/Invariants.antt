use Rattle.std.proofs.Common.{◌≡◌, ◌+◌, length}
use Rattle.mr_store.specs.Reads.{Grew}
use Rattle.mr_store.proofs.limited.read_limited_onto.Given as goal

abbrev pub invariant-loop-count : goal.invariant-loop-count
invariant-loop-count g l = record {
  grew : Grew (g.R.CountedRead.remaining l.initial.reader) (g.R.CountedRead.remaining l.reader) l.initial.out.items l.out.items;
  room : length l.out.items + l.left ≡ length l.initial.out.items + l.limit;
  later : g.R.CountedRead.can_fail l.reader → g.R.CountedRead.can_fail l.initial.reader;
  count : g.R.CountedRead.failed l.reader ≡ g.R.CountedRead.failed l.initial.reader;
}

abbrev pub decreases-loop-count : goal.decreases-loop-count
decreases-loop-count g l = l.left
