use Rattle.std.proofs.Common.{◌≡◌, map, take}
use Rattle.mr_judge.proofs.from.first_failed.Given as goal

abbrev pub invariant-loop-i : goal.invariant-loop-i
invariant-loop-i g l = take l.i (map g.R.CountedRead.failed l.readers) ≡ take l.i l.before
