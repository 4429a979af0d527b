use Rattle.std.proofs.Common.{◌≡◌, ◌+◌, vec_len}
use Rattle.mr_pool.proofs.workers.seats_of.Given as goal

abbrev pub invariant-loop-one : goal.invariant-loop-one
invariant-loop-one g l = vec_len l.seats + vec_len l.ends ≡ vec_len l.fn.ends

abbrev pub decreases-loop-one : goal.decreases-loop-one
decreases-loop-one g l = vec_len l.ends
