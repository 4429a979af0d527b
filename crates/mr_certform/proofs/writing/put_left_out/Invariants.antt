use Rattle.std.proofs.Common.{drop}
use Rattle.std.specs.List.{flat_map, AllByRecursion}
use Rattle.mr_certform.specs.Spelling.{skip_bytes}
use Rattle.mr_certform.specs.Value.{SkipFits}
use Rattle.mr_certform.proofs.writing.put_left_out.Given as goal

abbrev pub invariant-loop-skip : goal.invariant-loop-skip
invariant-loop-skip g l = record {
  spelled : (new : _) → g.O.Sink.takes l.out new (flat_map skip_bytes (drop l.skip-index l.skips)) → g.O.Sink.takes l.initial.out new (flat_map skip_bytes l.skips);
  fits : AllByRecursion SkipFits (drop l.skip-index l.skips) → AllByRecursion SkipFits l.skips;
}
