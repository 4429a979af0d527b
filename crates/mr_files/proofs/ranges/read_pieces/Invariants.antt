use Rattle.mr_files.specs.Ranges.{IsRead}
use Rattle.mr_files.proofs.ranges.read_pieces.Given as goal

abbrev pub invariant-loop-left : goal.invariant-loop-left
invariant-loop-left g l = record {
  read : IsRead (g.R.CountedRead.remaining l.initial.reader) (g.R.CountedRead.remaining l.reader) l.most l.keep l.bytes.items l.left;
  later : g.R.CountedRead.can_fail l.reader → g.R.CountedRead.can_fail l.initial.reader;
}

abbrev pub decreases-loop-left : goal.decreases-loop-left
decreases-loop-left g l = l.left
