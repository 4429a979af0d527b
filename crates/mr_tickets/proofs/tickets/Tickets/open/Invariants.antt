use Rattle.std.proofs.Common.{◌≡◌, ◌+◌, [], false, replicate}
use Rattle.mr_tickets.proofs.tickets.Tickets.open.Given as goal

abbrev pub invariant-loop-i : goal.invariant-loop-i
invariant-loop-i l =
    (l.first.table_id ≡ l.table.shared.table_id) × (l.first.me.0.parts + l._i ≡ l.seats) × (l.first.me.0.drawn ≡ []) × (l.table.shared.table_id.words ≡ 1)
    × (l.made.items ≡ replicate l._i (record { table = l.table.shared.table_id; limit = l.limit; drawn = []; told = false }))
