use Rattle.std.proofs.Common.{◌≡◌, ◌+◌, [], vec_len}
use Rattle.std.specs.Prelude.{All}
use Rattle.mr_tickets.specs.Views.{IsSeatOf}
use Rattle.mr_tickets.specs.Pieces.{IsFresh}
use Rattle.mr_tickets.proofs.drawing.jobs_of.Given as goal

abbrev pub invariant-loop-seat : goal.invariant-loop-seat
invariant-loop-seat l = record {
  count : vec_len l.jobs + vec_len l.seats ≡ vec_len l.fn.seats;
  left : All (λ s. IsSeatOf l.tickets s × (s.drawn ≡ [])) l.seats.items;
  fresh : All (IsFresh l.tickets) l.jobs.items;
}

abbrev pub decreases-loop-seat : goal.decreases-loop-seat
decreases-loop-seat l = vec_len l.seats
