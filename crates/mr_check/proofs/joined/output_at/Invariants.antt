use Rattle.std.proofs.Common.{length, ◌-◌, ◌<◌}
use Rattle.mr_check.proofs.joined.output_at.Given as goal

abbrev pub invariant-loop-p : goal.invariant-loop-p
invariant-loop-p l = l.p < length l.starts

abbrev pub decreases-loop-p : goal.decreases-loop-p
decreases-loop-p l = l.p

abbrev pub invariant-loop-p-2 : goal.invariant-loop-p-2
invariant-loop-p-2 l = l.p < length l.starts

abbrev pub decreases-loop-p-2 : goal.decreases-loop-p-2
decreases-loop-p-2 l = length l.starts - l.p
