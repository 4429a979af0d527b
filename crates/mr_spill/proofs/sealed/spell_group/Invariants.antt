use Rattle.std.proofs.Common.{◌≡◌, ◌++◌, take}
use Rattle.std.specs.List.{AllByRecursion, flat_map}
use Rattle.mr_spill.specs.Groups.{nth_group}
use Rattle.mr_spill.specs.Spelling.{PairFits, pair_bytes}
use Rattle.mr_spill.proofs.sealed.spell_group.Given as goal

abbrev pub invariant-loop-i : goal.invariant-loop-i
invariant-loop-i l = record {
  text : l.text.items ≡ l.fn.text.items ++ flat_map pair_bytes (take l.i (nth_group l.groups l.g).pairs);
  fit : AllByRecursion PairFits (take l.i (nth_group l.groups l.g).pairs);
}
