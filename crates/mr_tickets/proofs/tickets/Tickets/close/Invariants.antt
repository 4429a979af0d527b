use Rattle.std.proofs.Common.{◌≡◌, ◌+◌, ◌≤◌, ℕ, [], true, vec_len}
use Rattle.std.specs.Prelude.{All}
use Rattle.mr_tickets.specs.Drawn.{weigh, total, kept, past}
use Rattle.mr_tickets.specs.Views.{IsSeatOf}
use Rattle.mr_tickets.proofs.tickets.Tickets.close.Given as goal

abbrev pub invariant-loop-seat : goal.invariant-loop-seat
invariant-loop-seat l = record {
  same : l.base.table_id ≡ l.table.shared.table_id;
  words : l.table.shared.table_id.words ≡ 1;
  slots : l.base.me.1 ≡ [];
  parts : l.base.me.0.parts + vec_len l.seats ≡ l.fn.self.seats;
  mine : All (IsSeatOf l.fn.self) l.seats.items;
  told : All (λ s. s.told ≡ true) l.fn.seats.items → 1 ≤ weigh (past l.fn.self.limit) l.base.me.0.drawn;
  sums : (h : ℕ → ℕ) → weigh h (kept l.fn.self.limit l.base.me.0.drawn) + total (λ s. weigh h s.drawn) l.seats.items ≡ total (λ s. weigh h s.drawn) l.fn.seats.items;
}

abbrev pub decreases-loop-seat : goal.decreases-loop-seat
decreases-loop-seat l = vec_len l.seats
