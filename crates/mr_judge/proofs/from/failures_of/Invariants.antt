use Rattle.std.proofs.Common.{◌≡◌, ◌++◌, map, drop}
use Rattle.mr_judge.proofs.from.failures_of.Given as goal

abbrev pub invariant-loop-reader : goal.invariant-loop-reader
invariant-loop-reader g l = l.failures.items ++ map g.R.CountedRead.failed (drop l.reader-index l.readers) ≡ map g.R.CountedRead.failed l.readers
