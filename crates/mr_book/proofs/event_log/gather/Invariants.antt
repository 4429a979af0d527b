use Rattle.std.specs.Prelude.{◌≡◌, ◌+◌, sum, vec_len}
use Rattle.mr_book.proofs.event_log.gather.Given as goal

abbrev pub invariant-loop-seat : goal.invariant-loop-seat
invariant-loop-seat g l = (l.rest.parts + vec_len l.seats ≡ l.fn.rest.parts + vec_len l.fn.seats) × (l.rest.amount + sum l.seats.items ≡ l.fn.rest.amount + sum l.fn.seats.items)

abbrev pub decreases-loop-seat : goal.decreases-loop-seat
decreases-loop-seat g l = vec_len l.seats
