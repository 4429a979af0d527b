use Rattle.std.proofs.Common.{◌≡◌, ℕ, ◌-◌, List, drop, ap, sym, ◌∙◌}
use Rattle.mr_input.specs.Files.{contents, nth_file}
use Rattle.mr_judge.proofs.OutputLemmas.{contents_drop}
use Rattle.mr_check.proofs.WalkLemmas.{leaves_at}
use Rattle.mr_check.proofs.walk.Walk.at.Goals as goal

pub returns-clause-stands : goal.returns-clause-stands
returns-clause-stands c =
    let b = c.args.border.now in
    let outs : List (List ℕ) = c.args.given.now.outputs.now in
    let here : contents c.outputs.result.now ≡ outs = c.outputs.ensures in
    record {
      left = leaves_at c.at.result b outs c.at-2.result.rest.now (contents c.at-2.result.later.now) c.at.ensures
          (c.at-2.ensures.rest ∙ ap (λ (w : List (List ℕ)). drop b.from (nth_file w (b.next - 1))) here)
          (ap contents c.at-2.ensures.later ∙ (contents_drop b.next c.outputs.result.now ∙ ap (drop b.next) here));
      place = c.at-2.ensures.passed ∙ ap (λ w. w.from) (sym c.at.ensures);
      told = tt;
      key = λ h. tt;
    }
