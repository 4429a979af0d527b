use Rattle.std.proofs.Common.{length}
use Rattle.std.specs.List.{AllByRecursion}
use Rattle.mr_certform.specs.Places.{first_name}
use Rattle.mr_certform.specs.Value.{NameFits, CanRow}
use Rattle.mr_certform.specs.Pieces.{names_bytes}
use Rattle.mr_certform.proofs.writing.put_names.Given as goal

abbrev pub invariant-loop-name : goal.invariant-loop-name
invariant-loop-name g l = record {
  spelled : (new : _) → g.O.Sink.takes l.out new (names_bytes l.version l.before l.names) → g.O.Sink.takes l.initial.out new (names_bytes l.version first_name l.fn.names);
  can : CanRow l.version l.before l.names;
  fits : AllByRecursion NameFits l.names → AllByRecursion NameFits l.fn.names;
}

abbrev pub decreases-loop-name : goal.decreases-loop-name
decreases-loop-name g l = length l.names
