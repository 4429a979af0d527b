use Rattle.std.proofs.Common.{◌≡◌, ◌<◌, ℕ, All, List, get_or, length, sym, subst, ap, ◌∙◌, arith}
use Rattle.std.proofs.lemmas.List.{get_or_default}
use Rattle.mr_index.specs.declared.window.Window.{Window}
use Rattle.mr_jobs.specs.JobSpec.{JobSpec}
use Rattle.mr_splits.specs.Cut.{Cut}
use Rattle.mr_index.specs.Windows.{PieceView, IsWindow, piece_of}
use Rattle.mr_index.proofs.WindowLemmas.{tiles_window}
use Rattle.mr_check.specs.declared.claims.Late.{Late}
use Rattle.mr_check.specs.declared.walk.Walked.{Walked}
use Rattle.mr_check.specs.Claims.{Taken, IsRightWindow, no_window, nth_list, nth_window}
use Rattle.mr_check.specs.Joined.{joined}
use Rattle.mr_check.specs.Walk.{known}
use Rattle.mr_check.specs.Windows.{IsMapped, IsRightIn, pairs_in}
use Rattle.mr_check.proofs.WindowsLemmas.{right_list, until_next}
use Rattle.mr_check.proofs.windows.test_window.Goals as goal

pub map-requires : goal.map-requires
map-requires c =
    subst (λ (w : Window). IsWindow c.args.given.now.kept.now.cut w) (sym c.window-window.ensures)
    (tiles_window c.args.given.now.kept.now.cut 0 0 c.args.w c.args.given.now.windows.now.list no_window c.requires.by.tiles c.requires.within)

pub loop-right-preserved : goal.loop-right-preserved
loop-right-preserved c i d less within =
    let g = c.args.given.now in
    let by = c.args.given.now.windows.now in
    let walk : Walked = c.index-walked-right.result in
    let here_is : Walked = get_or c.args.walked.now c.loop-right.right walk in
    let one : Taken = here_is.claims in
    let window : Window = c.window-window.result in
    let mapped : IsMapped g window c.in-Ok.piece = record {
      some = omega (arith, c.size-size.ensures.within.0, c.size-size.ensures.same, ap (λ (k : Cut). k.size) c.plan.ensures);
      window = subst (λ (w : Window). IsWindow g.kept.now.cut w) (sym c.window-window.ensures) (tiles_window g.kept.now.cut 0 0 c.args.w by.list no_window c.requires.by.tiles c.requires.within);
      piece = c.in-Ok.ensures ∙ ap (λ (j : JobSpec). piece_of j g.kept.now window.split window.from window.end) c.job.ensures.same;
    } in
    let right : All (IsRightIn g c.bits-bits.result window) c.of_window.result.now = c.are_right.ensures window c.if-not-are_right.false mapped in
    let here : All (IsRightIn g by.bits (nth_window by.list c.args.w)) (nth_list one.lists c.args.w) =
    subst (λ (v : Window). All (IsRightIn g by.bits v) (nth_list one.lists c.args.w)) c.window-window.ensures
    (subst (λ (n : ℕ). All (IsRightIn g n window) (nth_list one.lists c.args.w)) c.bits-bits.ensures.bits
    (subst (λ (l : List Late). All (IsRightIn g c.bits-bits.result window) l) c.of_window.ensures right)) in
    let of : one.windows ≡ by = c.requires.by.by c.loop-right.right walk c.loop-right-test.true in
    until_next (λ k. k < length c.args.walked.now → IsRightWindow (known g).triples (joined (known g).outputs) (get_or c.args.walked.now k d).claims c.args.w) c.loop-right.right
    (λ k before. c.loop-right.invariant k d before)
    (λ there. subst (λ (x : Walked). IsRightWindow (known g).triples (joined (known g).outputs) x.claims c.args.w) (get_or_default c.args.walked.now c.loop-right.right walk d there) (right_list g by c.args.w one of here))
    i less within

pub returns : goal.returns
returns c =
    let window : Window = c.window-window.result in
    let view = c.in-Ok.ensures ∙ ap (λ (j : JobSpec). piece_of j c.args.given.now.kept.now window.split window.from window.end) c.job.ensures.same in
    record {
      pairs = c.len.ensures ∙ (ap (λ (p : PieceView). length p.triples) view ∙ ap (λ (v : Window). length (pairs_in c.args.given.now v)) c.window-window.ensures);
      right = c.loop-right.invariant;
    }
