use Rattle.std.proofs.Common.{◌≡◌, ◌≤◌, map, length}
use Rattle.mr_judge.specs.Readers.{reading}
use Rattle.mr_judge.proofs.ReadingLemmas.{Fronts}
use Rattle.mr_judge.proofs.readers.ReaderOutputsOutputs.pass_text.Given as goal

abbrev pub invariant-loop-wanted : goal.invariant-loop-wanted
invariant-loop-wanted g l = record {
  front : Fronts (reading g.R.CountedRead.remaining l.initial.self) (reading g.R.CountedRead.remaining l.self) l.initial.text l.wanted l.initial.self.passed l.self.passed;
  begun : 1 ≤ l.self.opened;
  failed : map g.R.CountedRead.failed l.self.readers.now ≡ map g.R.CountedRead.failed l.initial.self.readers.now;
}

abbrev pub decreases-loop-wanted : goal.decreases-loop-wanted
decreases-loop-wanted g l = length l.wanted
