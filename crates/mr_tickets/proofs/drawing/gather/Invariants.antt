use Rattle.std.proofs.Common.{◌≡◌, ◌+◌, ℕ, true, vec_len}
use Rattle.std.specs.Prelude.{All, IfOk}
use Rattle.mr_tickets.specs.Views.{IsSeatOf}
use Rattle.mr_tickets.specs.Drawn.{weigh, total}
use Rattle.mr_tickets.specs.Pieces.{numbers_of, AllGiven, IsDone}
use Rattle.mr_tickets.proofs.drawing.gather.Given as goal

abbrev pub invariant-loop-done : goal.invariant-loop-done
invariant-loop-done g l = record {
  count : vec_len l.seats + vec_len l.dones ≡ l.fn.tickets.seats;
  done : All (λ r. IfOk r (IsDone (g.W.WorkPieces.gives l.all) l.fn.tickets)) l.dones.items;
  seats : All (IsSeatOf l.fn.tickets) l.seats.items;
  told : All (λ s. s.told ≡ true) l.seats.items;
  sums : (h : ℕ → ℕ) → weigh h (numbers_of l.found.items) ≡ total (λ s. weigh h s.drawn) l.seats.items;
  given : AllGiven (g.W.WorkPieces.gives l.all) l.found.items;
}

abbrev pub decreases-loop-done : goal.decreases-loop-done
decreases-loop-done g l = vec_len l.dones
