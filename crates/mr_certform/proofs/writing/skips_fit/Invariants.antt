use Rattle.std.proofs.Common.{drop}
use Rattle.std.specs.List.{AllByRecursion}
use Rattle.mr_certform.specs.Value.{SkipFits}
use Rattle.mr_certform.proofs.writing.skips_fit.Given as goal

abbrev pub invariant-loop-skip : goal.invariant-loop-skip
invariant-loop-skip l = AllByRecursion SkipFits (drop l.skip-index l.skips) → AllByRecursion SkipFits l.skips
