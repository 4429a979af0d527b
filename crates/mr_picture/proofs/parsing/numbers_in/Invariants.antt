use Rattle.std.proofs.Common.{length}
use Rattle.std.specs.List.{AllByRecursion}
use Rattle.mr_picture.specs.Histories.{IsSmall}
use Rattle.mr_picture.proofs.NumberLemmas.{IsReadOn}
use Rattle.mr_picture.proofs.parsing.numbers_in.Given as goal

abbrev pub invariant-loop-number : goal.invariant-loop-number
invariant-loop-number l = record {
  small : AllByRecursion IsSmall l.numbers.items;
  on : IsReadOn l.fn.text l.numbers.items l.rest;
}

abbrev pub decreases-loop-number : goal.decreases-loop-number
decreases-loop-number l = length l.rest
