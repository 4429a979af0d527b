use Rattle.std.proofs.Common.{◌≡◌, ◌≤◌, drop, length}
use Rattle.std.specs.List.{flat_map, AllByRecursion}
use Rattle.mr_certform.specs.Value.{NameFits, CanSpell}
use Rattle.mr_certform.specs.Flat.{total, chunks}
use Rattle.mr_certform.specs.Pieces.{part_bytes}
use Rattle.mr_certform.proofs.writing.put_parts.Given as goal

abbrev pub invariant-loop-groups : goal.invariant-loop-groups
invariant-loop-groups g l = record {
  spelled : (new : _) → g.O.Sink.takes l.out new (flat_map (part_bytes l.version) (chunks (drop l.groups-index l.group_counts) (chunks l.counts l.rest))) → g.O.Sink.takes l.initial.out new (flat_map (part_bytes l.version) (chunks l.group_counts (chunks l.entry_counts l.fn.names)));
  can : CanSpell l.version (chunks l.counts l.rest);
  groups : total (drop l.groups-index l.group_counts) ≡ length l.counts;
  room : total l.counts ≤ length l.rest;
  fits : AllByRecursion (AllByRecursion NameFits) (chunks l.counts l.rest) → AllByRecursion (AllByRecursion NameFits) (chunks l.entry_counts l.fn.names);
}
