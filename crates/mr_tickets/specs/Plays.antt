-- What a step tells, and how views are cut and joined.
use Rattle.std.specs.Prelude.{◌≡◌, ℕ, ◌-◌, ◌+◌, ◌≤◌, [], ◌∷◌, ◌++◌, length}
use Rattle.atomic_table.specs.Table.{Step, Me}
use Rattle.mr_tickets.specs.declared.tickets.Hand.{Hand}
use Rattle.mr_tickets.specs.Drawn.{kept}
use Rattle.mr_tickets.specs.Rule.{hand}

-- the number that was found is added. Of the numbers below any limit a view has no more than there are
abbrev pub Draws : Step (Unit {0}) → Me (Unit {0}) Hand → ℕ → Me (Unit {0}) Hand → Type 0
Draws st m r m' = (m' ≡ (hand m.0.parts (m.0.drawn ++ r ∷ []), m.1)) × ((n : ℕ) → length (kept n m'.0.drawn) ≤ n)

-- a part goes to another seat
abbrev pub one_less : Hand → Hand
one_less v = hand (v.parts - 1) v.drawn

-- the parts and the numbers of both
abbrev pub both : Hand → Hand → Hand
both v w = hand (v.parts + w.parts) (v.drawn ++ w.drawn)
