use Rattle.std.proofs.Common.{◌≡◌, length}
use Rattle.mr_certform.specs.Spelling.{items_of, is_ended, stop}
use Rattle.mr_certform.specs.Walking.{items_left, halt}
use Rattle.mr_certform.specs.Flat.{told_by, nothing_told}
use Rattle.mr_certform.proofs.reading.told_values.Given as goal

abbrev pub invariant-loop-flat : goal.invariant-loop-flat
invariant-loop-flat l = record {
  told : told_by l.flat (items_left l.walker) ≡ told_by nothing_told (items_of l.bytes);
  ended : is_ended (items_left l.walker) ≡ is_ended (items_of l.bytes);
  place : halt l.walker ≡ stop l.bytes;
}

abbrev pub decreases-loop-flat : goal.decreases-loop-flat
decreases-loop-flat l = length (items_left l.walker)
