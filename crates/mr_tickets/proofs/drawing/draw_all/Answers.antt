use Rattle.std.proofs.Common.{◌∙◌, ap}
use Rattle.mr_tickets.specs.Drawn.{below}
use Rattle.mr_tickets.proofs.drawing.draw_all.Goals as goal

pub in_order-requires-clause-once : goal.in_order-requires-clause-once
in_order-requires-clause-once g c κs inside = λ h. c.in_ok-found.ensures.once h ∙ ap (below h) c.in_ok-tickets.ensures.tickets.0
