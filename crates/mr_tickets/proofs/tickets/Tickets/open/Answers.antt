use Rattle.std.proofs.Common.{arith}
use Rattle.mr_tickets.proofs.Moves.{splits}
use Rattle.mr_tickets.proofs.tickets.Tickets.open.Goals as goal

pub split_seat-seat-requires : goal.split_seat-seat-requires
split_seat-seat-requires c =
    let i = c.loop-i.invariant in
    (i.0, omega (arith, i.3), splits _ _ _ (omega arith) i.2)
