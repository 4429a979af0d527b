use Rattle.std.proofs.Common.{◌≡◌, ◌≤◌, ℕ, List, IfSome, refl, sym, subst}
use Rattle.mr_verdict.specs.Verdict.{Reached}
use Rattle.mr_judge.specs.Rows.{row_subject}
use Rattle.mr_check.proofs.WalkLemmas.{key_after}
use Rattle.mr_input.specs.Files.{contents}
use Rattle.mr_judge.specs.Outputs.{Leaves}
use Rattle.mr_check.proofs.walk.Walk.step.Goals as goal

pub returns-in-Ok-clause-tested : goal.returns-in-Ok-clause-tested
returns-in-Ok-clause-tested c h =
    let outs = c.args.given.now.outputs.now in
    let st = c.args.self.now.judging in
    let t = c.in-Ok.ensures.tested c.step.new.outputs.rest.now (contents c.step.new.outputs.later.now) (refl, refl) in
    let w = subst (λ (l : List (List ℕ)). Leaves st outs t.0 l) (sym t.1.1.0.1) (subst (λ (r : List ℕ). Leaves st outs r (contents c.args.self.now.outputs.later.now)) (sym t.1.1.0.0) c.requires.stands.left) in
    (t.1.1.1 outs w).1

pub returns-in-Ok-clause-stands : goal.returns-in-Ok-clause-stands
returns-in-Ok-clause-stands c h =
    let outs = c.args.given.now.outputs.now in
    let st = c.args.self.now.judging in
    let t = c.in-Ok.ensures.tested c.step.new.outputs.rest.now (contents c.step.new.outputs.later.now) (refl, refl) in
    let w = subst (λ (l : List (List ℕ)). Leaves st outs t.0 l) (sym t.1.1.0.1) (subst (λ (r : List ℕ). Leaves st outs r (contents c.args.self.now.outputs.later.now)) (sym t.1.1.0.0) c.requires.stands.left) in
    let s = row_subject c.args.given.now.request.now outs in
    record {
      left = (t.1.1.1 outs w).0;
      place = c.in-Ok.ensures.place;
      told = c.requires.stands.told;
      key = subst (λ (v : Reached). 1 ≤ v.entry → IfSome c.args.self.now.told (λ x. x.key.now ≡ v.key)) (sym (t.1.1.1 outs w).1.1)
          (key_after s st c.args.row.now c.args.self.now.told c.requires.stands.key c.requires.key);
    }
