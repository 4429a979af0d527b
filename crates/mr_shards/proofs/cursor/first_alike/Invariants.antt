use Rattle.mr_shards.specs.Cursors.{AreBeyond}
use Rattle.mr_shards.proofs.cursor.first_alike.Given as goal

abbrev pub invariant-loop-at : goal.invariant-loop-at
invariant-loop-at l = AreBeyond l.at l.last l.cursors
