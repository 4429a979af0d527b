use Rattle.std.proofs.Common.{◌≡◌, length}
use Rattle.mr_shards.specs.Lines.{lines}
use Rattle.mr_shards.specs.Reading.{told_under}
use Rattle.mr_shards.proofs.reading.first_told.Given as goal

abbrev pub invariant-loop-line : goal.invariant-loop-line
invariant-loop-line l = told_under l.word (lines l.rest) ≡ told_under l.word (lines l.text)

abbrev pub decreases-loop-line : goal.decreases-loop-line
decreases-loop-line l = length l.rest
