use Rattle.std.proofs.Common.{All}
use Rattle.mr_judge.specs.Borders.{IsSmall}
use Rattle.mr_check.proofs.guesses.guesses_of.Given as goal

abbrev pub invariant-loop-section : goal.invariant-loop-section
invariant-loop-section l = All IsSmall l.guesses.items
