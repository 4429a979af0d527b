use Rattle.mr_certform.proofs.ShortLaws.{IsReading}
use Rattle.mr_certform.proofs.short.behind_first.Given as goal

abbrev pub invariant-loop-i : goal.invariant-loop-i
invariant-loop-i l = IsReading l.first l.low l.scale l.i l.bytes l.rest
