use Rattle.std.proofs.Common.{◌≤◌, drop, length}
use Rattle.mr_certform.specs.declared.version.Version.TheVariants.{V2}
use Rattle.mr_certform.specs.Flat.{total, chunks}
use Rattle.mr_certform.specs.Value.{CanSpell}
use Rattle.mr_certform.proofs.version.never_fall.Given as goal

abbrev pub invariant-loop-count : goal.invariant-loop-count
invariant-loop-count l = record {
  room : total (drop l.count-index l.counts) ≤ length l.rest;
  so_far : CanSpell V2 (chunks (drop l.count-index l.counts) l.rest) → CanSpell V2 (chunks l.counts l.fn.names);
  behind : CanSpell V2 (chunks l.counts l.fn.names) → CanSpell V2 (chunks (drop l.count-index l.counts) l.rest);
}
