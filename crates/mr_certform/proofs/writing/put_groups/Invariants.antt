use Rattle.std.proofs.Common.{◌≡◌, ◌≤◌, drop, length}
use Rattle.std.specs.List.{flat_map, AllByRecursion}
use Rattle.mr_certform.specs.Value.{NameFits, CanSpell}
use Rattle.mr_certform.specs.Flat.{total, chunks}
use Rattle.mr_certform.specs.Pieces.{group_bytes}
use Rattle.mr_certform.proofs.writing.put_groups.Given as goal

abbrev pub invariant-loop-count : goal.invariant-loop-count
invariant-loop-count g l = record {
  spelled : (new : _) → g.O.Sink.takes l.out new (flat_map (group_bytes l.version) (chunks (drop l.count-index l.counts) l.rest)) → g.O.Sink.takes l.initial.out new (flat_map (group_bytes l.version) (chunks l.counts l.fn.names));
  can : CanSpell l.version (chunks (drop l.count-index l.counts) l.rest);
  room : total (drop l.count-index l.counts) ≤ length l.rest;
  behind : drop (total (drop l.count-index l.counts)) l.rest ≡ drop (total l.counts) l.fn.names;
  fits : AllByRecursion (AllByRecursion NameFits) (chunks (drop l.count-index l.counts) l.rest) → AllByRecursion (AllByRecursion NameFits) (chunks l.counts l.fn.names);
}
