use Rattle.mr_merge.proofs.BitLemmas.{AreSet}
use Rattle.mr_merge.proofs.distinct.set_all.Given as goal

abbrev pub invariant-loop-i : goal.invariant-loop-i
invariant-loop-i l = AreSet l.names l.grid l.words l.i
