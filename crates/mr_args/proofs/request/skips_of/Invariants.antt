use Rattle.std.proofs.Common.{length}
use Rattle.mr_args.proofs.SkipLists.{IsRead}
use Rattle.mr_args.proofs.request.skips_of.Given as goal

abbrev pub invariant-loop-first : goal.invariant-loop-first
invariant-loop-first l = IsRead l.text l.rest l.names.items

abbrev pub decreases-loop-first : goal.decreases-loop-first
decreases-loop-first l = length l.rest
