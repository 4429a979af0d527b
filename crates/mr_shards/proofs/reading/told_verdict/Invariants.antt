use Rattle.std.proofs.Common.{◌≡◌, true, length}
use Rattle.std.specs.Prelude.{codes}
use Rattle.std.specs.List.{AllByRecursion}
use Rattle.mr_shards.specs.Reading.{IsOldNote, NoteFits, RangeFits, SpotFits}
use Rattle.mr_shards.specs.Verdict.{note_told, range_told, spot_told}
use Rattle.mr_shards.proofs.ReadLemmas.{IsFound}
use Rattle.mr_shards.proofs.reading.told_verdict.Given as goal

abbrev pub invariant-loop-line : goal.invariant-loop-line
invariant-loop-line l = record {
  inputs : IsFound (range_told l.old) (RangeFits l.old) (codes "input") l.text l.rest l.inputs.items;
  all : l.old ≡ true → AllByRecursion IsOldNote l.inputs.items;
  outputs : IsFound note_told NoteFits (codes "output") l.text l.rest l.outputs.items;
  left_out : IsFound spot_told SpotFits (codes "without") l.text l.rest l.left_out.items;
}

abbrev pub decreases-loop-line : goal.decreases-loop-line
decreases-loop-line l = length l.rest
