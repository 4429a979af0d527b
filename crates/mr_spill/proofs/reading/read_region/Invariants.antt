use Rattle.mr_spill.proofs.CursorLemmas.{AreKept}
use Rattle.mr_spill.proofs.reading.read_region.Given as goal

abbrev pub invariant-loop-pair : goal.invariant-loop-pair
invariant-loop-pair l = AreKept l.bytes l.split l.partition l.pairs l.cursor

abbrev pub decreases-loop-pair : goal.decreases-loop-pair
decreases-loop-pair l = l.cursor.left
