use Rattle.std.specs.Prelude.{◌≡◌, ◌+◌, replicate}
use Rattle.mr_book.proofs.event_log.seats_of.Given as goal

abbrev pub invariant-loop-i : goal.invariant-loop-i
invariant-loop-i g l = (l.rest.parts + l._i ≡ l.count) × (l.rest.amount ≡ 0) × (l.seats.items ≡ replicate l._i 0)
