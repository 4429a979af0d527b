use Rattle.std.proofs.Common.{◌<◌, List, Option, None, get_or, length, sym, ap, ◌∙◌, subst, arith}
use Rattle.std.specs.Prelude.{IfSome}
use Rattle.std.specs.List.{flat_map}
use Rattle.std.proofs.lemmas.List.{take_all}
use Rattle.mr_index.specs.declared.window.Window.{Window}
use Rattle.mr_index.proofs.WindowLemmas.{windows_all}
use Rattle.mr_splits.specs.Cut.{Cut}
use Rattle.mr_check.specs.Claims.{Division, IsRightWindow}
use Rattle.mr_check.specs.Joined.{joined}
use Rattle.mr_check.specs.Walk.{known}
use Rattle.mr_check.specs.Windows.{IsTested, pairs_in}
use Rattle.mr_check.specs.declared.windows.Tested.{Tested}
use Rattle.mr_check.proofs.ClaimLemmas.{claims_right}
use Rattle.mr_check.proofs.WindowsLemmas.{until_next, pairs_next}
use Rattle.mr_check.proofs.windows.sum_windows.Goals as goal

pub loop-w-preserved : goal.loop-w-preserved
loop-w-preserved c =
    let given = c.args.given.now in
    let ws : List Window = given.windows.now.list in
    let w = c.loop-w.w in
    let inv = c.loop-w.invariant in
    let less : w < length ws = omega (arith, c.loop-w-test.true, c.requires.all) in
    let told : IsTested given c.args.walked.now w c.in_ok-window.window = subst (λ (o : Option Tested). IfSome o (IsTested given c.args.walked.now w)) c.in_ok-window.was (c.requires.tested w None c.loop-w-test.true) in
    record {
      sum = omega (arith, c.in_ok-sum.ensures.1, inv.sum, told.pairs, pairs_next (pairs_in given) ws w less);
      few = omega (arith, inv.few, c.min-right.ensures);
      right = λ k d before. until_next (λ i. IsRightWindow (known given).triples (joined (known given).outputs) (get_or c.args.walked.now k d).claims i) w
          (inv.right k d (omega (arith, before, c.min-right.ensures))) (told.right k d (omega (arith, before, c.min-right.ensures)) (omega (arith, before, inv.few, c.min-right.ensures)));
    }

pub returns-clause-pairs : goal.returns-clause-pairs
returns-clause-pairs c =
    let given = c.args.given.now in
    let cut : Cut = given.kept.now.cut in
    let ws : List Window = given.windows.now.list in
    sym (c.loop-w.invariant.sum
    ∙ (ap (λ (l : List Window). length (flat_map (pairs_in given) l)) (take_all c.loop-w.w ws (omega (arith, c.loop-w-test.false, c.requires.all)))
    ∙ ap length (windows_all given.request.now.job cut given.kept.now.skips ws (omega (arith, c.size-size.ensures.within.0, c.size-size.ensures.same, ap (λ (k : Cut). k.size) c.plan.ensures)) c.requires.by.tiles)))

pub returns-clause-right : goal.returns-clause-right
returns-clause-right c k d before within =
    let given = c.args.given.now in
    claims_right (known given).triples (joined (known given).outputs) (get_or c.args.walked.now k d).claims
    (λ i less. c.loop-w.invariant.right k d before i (omega (arith, less, ap (λ (by : Division). length by.list) (c.requires.by.by k d within), c.loop-w-test.false, c.requires.all)))
