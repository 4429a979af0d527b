use Rattle.std.proofs.Common.{◌≡◌, ℕ, List, length, arith, sym, subst}
use Rattle.mr_splits.specs.Cut.{Cut, records_of}
use Rattle.mr_index.specs.declared.window.Window.{Window}
use Rattle.mr_index.specs.Windows.{number_of, Follow}
use Rattle.mr_index.proofs.WindowLemmas.{number-first, number-last}
use Rattle.mr_index.proofs.window.windows.Goals as goal

pub loop-split-init : goal.loop-split-init
loop-split-init c =
    let cut : Cut = c.args.plan.now in
    subst (λ (ws : List Window). Follow cut 0 ws (number_of cut 0 0)) (sym c.new-windows.ensures.items) (sym (number-first cut))

pub returns : goal.returns
returns c =
    let cut : Cut = c.args.plan.now in
    let ws : List Window = c.loop-split.windows.items in
    let last : number_of cut c.loop-split.split 0 ≡ length (records_of cut) =
    number-last cut c.loop-split.split (omega (arith, c.size-size.ensures.same, c.size-size.ensures.within))
    (omega (arith, c.loop-split-test.false, c.loop-split.auto, c.splits-split-end.ensures.count)) in
    subst (λ (at : ℕ). Follow cut at ws (length (records_of cut))) (sym (number-first cut)) (subst (Follow cut 0 ws) last c.loop-split.invariant)
