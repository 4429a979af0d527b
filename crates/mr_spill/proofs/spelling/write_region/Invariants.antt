use Rattle.std.proofs.Common.{◌≡◌, ◌++◌, length, take}
use Rattle.std.specs.List.{AllByRecursion, flat_map}
use Rattle.mr_spill.specs.Spelling.{PairFits, header, pair_bytes}
use Rattle.mr_spill.proofs.spelling.write_region.Given as goal

abbrev pub invariant-loop-i : goal.invariant-loop-i
invariant-loop-i l = record {
  text : l.out.items ≡ header l.split l.partition (length l.pairs) ++ flat_map pair_bytes (take l.i l.pairs);
  fit : AllByRecursion PairFits (take l.i l.pairs);
}
