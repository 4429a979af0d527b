use Rattle.mr_store.specs.Devices.{texts}
use Rattle.mr_store.proofs.Parts.{Kept}
use Rattle.mr_store.proofs.writing.write_parts.Given as goal

abbrev pub invariant-loop-i : goal.invariant-loop-i
invariant-loop-i g l = Kept g.W.CountedWrite.seen l.i l.initial.writers l.writers (texts l.outputs)
