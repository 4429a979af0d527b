use Rattle.mr_commands.specs.Explains.{HasCounted}
use Rattle.mr_commands.proofs.feeds.count_feeds.Given as goal

abbrev pub invariant-loop-left : goal.invariant-loop-left
invariant-loop-left g l = record {
  counted : HasCounted (g.R.CountedRead.remaining l.initial.reader) (g.R.CountedRead.remaining l.reader) l.most l.left l.feeds;
  later : g.R.CountedRead.can_fail l.reader → g.R.CountedRead.can_fail l.initial.reader;
}

abbrev pub decreases-loop-left : goal.decreases-loop-left
decreases-loop-left g l = l.left
