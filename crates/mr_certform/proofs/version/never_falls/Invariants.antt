use Rattle.std.proofs.Common.{length}
use Rattle.mr_certform.specs.Places.{first_name}
use Rattle.mr_certform.specs.declared.version.Version.TheVariants.{V2}
use Rattle.mr_certform.specs.Value.{CanRow}
use Rattle.mr_certform.proofs.version.never_falls.Given as goal

abbrev pub invariant-loop-name : goal.invariant-loop-name
invariant-loop-name l = record {
  so_far : CanRow V2 l.before l.names → CanRow V2 first_name l.fn.names;
  behind : CanRow V2 first_name l.fn.names → CanRow V2 l.before l.names;
}

abbrev pub decreases-loop-name : goal.decreases-loop-name
decreases-loop-name l = length l.names
