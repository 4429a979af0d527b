use Rattle.std.proofs.Common.{◌≡◌, ℕ, ◌+◌, Bool, ap, sym, ◌∙◌, arith}
use Rattle.mr_pool.specs.Accounts.{is_worker_lost}
use Rattle.mr_pool.proofs.Ranges.{all-fails, all-more}
use Rattle.mr_pool.proofs.fault_plan.all_are_lost.Goals as goal

pub returns-then-not-is_lost : goal.returns-then-not-is_lost
returns-then-not-is_lost c =
    let P : ℕ → Bool = is_worker_lost c.args.directives.now in
    let w : ℕ = c.loop-worker.worker in
    let here : 0 + w ≡ w = omega arith in
    sym (all-fails P 0 c.args.workers w (omega (arith, c.loop-worker-test.true)) (ap P here ∙ (sym c.is_lost.ensures ∙ c.if-not-is_lost.true)))

pub loop-worker-preserved : goal.loop-worker-preserved
loop-worker-preserved c =
    let P : ℕ → Bool = is_worker_lost c.args.directives.now in
    let w : ℕ = c.loop-worker.worker in
    let here : 0 + w ≡ w = omega arith in
    all-more P 0 w c.loop-worker.invariant (ap P here ∙ (sym c.is_lost.ensures ∙ c.if-not-is_lost.false))
