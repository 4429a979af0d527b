use Rattle.std.proofs.Common.{◌≡◌}
use Rattle.mr_explain.specs.Taking.{TookFrom}
use Rattle.mr_explain.proofs.sifting.take_all.Given as goal

abbrev pub invariant-loop-count : goal.invariant-loop-count
invariant-loop-count g l = record {
  took : TookFrom (g.R.CountedRead.remaining l.initial.reader) (g.R.CountedRead.remaining l.reader) l.limit l.left l.sifter;
  needle : l.sifter.needle ≡ l.initial.sifter.needle;
  most : l.sifter.most ≡ l.initial.sifter.most;
  later : g.R.CountedRead.can_fail l.reader → g.R.CountedRead.can_fail l.initial.reader;
  count : g.R.CountedRead.failed l.reader ≡ g.R.CountedRead.failed l.initial.reader;
}

abbrev pub decreases-loop-count : goal.decreases-loop-count
decreases-loop-count g l = l.left
