use Rattle.std.proofs.Common.{◌≡◌, ◌∷◌, ◌++◌, ◌∙◌, List, [], ap, rules}
use Rattle.std.specs.Prelude.{None, Option}
use Rattle.std.proofs.lemmas.List.{replicate_more}
use Rattle.mr_tickets.proofs.drawing.empty_slots.Goals as goal

pub loop-i-preserved : goal.loop-i-preserved
loop-i-preserved g c =
    let pushed : c.push.new.self.items ≡ c.loop-i.slots.items ++ None ∷ [] = search rules in
    pushed ∙ ap (λ (l : List (Option g.row.X.Denot)). l ++ None ∷ []) c.loop-i.invariant ∙ replicate_more c.loop-i._i None
