use Rattle.std.proofs.Common.{ℕ, ◌<◌, ◌≤◌, List, length, ap, sym, ◌∙◌, arith}
use Rattle.std.specs.Prelude.{slice_set}
use Rattle.mr_task.specs.Outputs.{flipped, with_other_bit}
use Rattle.mr_task.specs.Values.{Reduced}
use Rattle.mr_task.proofs.OutputLemmas.{flipped-past, flipped-set}
use Rattle.mr_task.proofs.output.ReduceOutput.flip.Goals as goal

pub returns-then-at-len : goal.returns-then-at-len
returns-then-at-len c =
    let bs : List ℕ = c.self.inside.text.items in
    let within : c.args.place < length bs = omega (arith, c.if-at-len.true, c.len.ensures) in
    let text = ap (λ (b : ℕ). slice_set bs c.args.place b) (c.flipped_bit.ensures ∙ ap with_other_bit c.index.ensures) ∙ flipped-set c.args.place bs c.index.result.now within in
    let out = text ∙ ap (λ (r : Reduced). flipped c.args.place r.output) c.self.view_is in
    let groups = ap (λ (r : Reduced). r.groups) c.self.view_is in
    λ i. record { output = out i; groups = groups i }

pub returns-else-at-len : goal.returns-else-at-len
returns-else-at-len c =
    let bs : List ℕ = c.self.inside.text.items in
    let past : length bs ≤ c.args.place = omega (arith, c.if-at-len.false, c.len.ensures) in
    let out = sym (flipped-past c.args.place bs past) ∙ ap (λ (r : Reduced). flipped c.args.place r.output) c.self.view_is in
    let text = ap (λ (r : Reduced). r.output) (sym c.self.view_is) in
    λ i. record { output = (text ∙ out) i; groups = c.args.self.now.groups }
