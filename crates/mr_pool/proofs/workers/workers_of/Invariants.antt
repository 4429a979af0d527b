use Rattle.std.proofs.Common.{◌≡◌, ◌+◌, vec_len}
use Rattle.mr_pool.proofs.workers.workers_of.Given as goal

abbrev pub invariant-loop-seat : goal.invariant-loop-seat
invariant-loop-seat g l = vec_len l.workers + vec_len l.seats ≡ vec_len l.fn.seats

abbrev pub decreases-loop-seat : goal.decreases-loop-seat
decreases-loop-seat g l = vec_len l.seats
