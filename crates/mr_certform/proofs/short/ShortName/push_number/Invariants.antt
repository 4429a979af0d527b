use Rattle.mr_certform.proofs.ShortLaws.{IsWriting}
use Rattle.mr_certform.proofs.short.ShortName.push_number.Given as goal

abbrev pub invariant-loop-left : goal.invariant-loop-left
invariant-loop-left l = IsWriting l.n l.left l.initial.self l.self

abbrev pub decreases-loop-left : goal.decreases-loop-left
decreases-loop-left l = l.left
