use Rattle.std.proofs.Common.{◌≡◌, ◌≤◌, ℕ, arith, ap, sym, ◌∙◌, subst, refl, length}
use Rattle.mr_splits.specs.Cut.{Cut, records_of}
use Rattle.mr_splits.specs.Named.{of_split}
use Rattle.mr_index.specs.declared.window.Window.{Window}
use Rattle.mr_index.specs.Windows.{number_of, Follow}
use Rattle.mr_index.proofs.WindowLemmas.{follow-push, number-next}
use Rattle.mr_index.proofs.window.push_split.Goals as goal

pub loop-from-preserved : goal.loop-from-preserved
loop-from-preserved c =
    let cut : Cut = c.args.plan.now in
    let end : ℕ = c.min-end.result in
    let w : Window = record { split = c.args.split; from = c.loop-from.from; end = end } in
    let order : c.loop-from.from ≤ end = omega (arith, c.min-end.ensures, c.saturating_add.ensures, c.loop-from-test.true) in
    let within : end ≤ c.records_in-records.result = omega (arith, c.min-end.ensures) in
    record {
      within = within;
      follow = subst (λ l. Follow cut 0 l (number_of cut c.args.split end)) (sym c.in_ok-push.ensures.items)
          (follow-push cut 0 (number_of cut c.args.split c.loop-from.from) (number_of cut c.args.split end) c.loop-from.windows.items w c.loop-from.invariant.follow
          (record { split = c.requires.split; order = order; within = omega (arith, within, c.records_in-records.ensures) }) refl refl);
    }

pub returns : goal.returns
returns c =
    let cut : Cut = c.args.plan.now in
    let all : c.loop-from.from ≡ length (of_split c.args.split (records_of cut)) =
    omega (arith, c.loop-from-test.false, c.loop-from.invariant.within, c.records_in-records.ensures) in
    subst (Follow cut 0 c.loop-from.windows.items)
    (ap (number_of cut c.args.split) all ∙ number-next cut c.args.split) c.loop-from.invariant.follow
