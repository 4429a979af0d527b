use Rattle.std.proofs.Common.{◌≡◌, ◌+◌, ◌-◌, length}
use Rattle.mr_picture.specs.Reading.{IsReadTo}
use Rattle.mr_picture.proofs.reading.read_history.Given as goal

abbrev pub invariant-loop-from : goal.invariant-loop-from
invariant-loop-from l = record {
  read : IsReadTo l.text l.history l.from;
  line : l.line ≡ length l.history.entries.items + 1;
}

abbrev pub decreases-loop-from : goal.decreases-loop-from
decreases-loop-from l = length l.text - l.from
