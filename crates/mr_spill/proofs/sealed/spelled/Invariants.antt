use Rattle.std.proofs.Common.{◌≡◌, ◌++◌, length, slice_range}
use Rattle.std.specs.List.{AllByRecursion, flat_map}
use Rattle.mr_spill.specs.Groups.{pairs_of}
use Rattle.mr_spill.specs.Spelling.{PairFits, header, pair_bytes}
use Rattle.mr_spill.proofs.sealed.spelled.Given as goal

abbrev pub invariant-loop-g : goal.invariant-loop-g
invariant-loop-g l = record {
  text : l.text.items
      ≡ header l.split l.part (length (flat_map pairs_of (slice_range l.groups l.begin l.end))) ++ flat_map pair_bytes (flat_map pairs_of (slice_range l.groups l.begin l.g));
  fit : AllByRecursion PairFits (flat_map pairs_of (slice_range l.groups l.begin l.g));
}
