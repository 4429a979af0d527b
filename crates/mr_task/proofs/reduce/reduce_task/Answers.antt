use Rattle.std.proofs.Common.{◌≡◌, ℕ, ◌+◌, List, [], ◌∷◌, ◌++◌, take, ap, sym, ◌∙◌, subst, arith, IfErr, IfOk}
use Rattle.std.proofs.lemmas.List.{take_all, take_more}
use Rattle.mr_spill.specs.Lent.{RegionText}
use Rattle.mr_spill.specs.Spelling.{SpellsRegion}
use Rattle.mr_merge.specs.Reduction.{IsOfRegions}
use Rattle.mr_merge.proofs.TakingLemmas.{spelled-at, taken-more}
use Rattle.mr_reduce.specs.Text.{text_of}
use Rattle.mr_task.specs.Values.{CanMerge, IsReduced}
use Rattle.mr_task.specs.declared.reduce.TaskFault.TheVariants.{RegionDamaged}
use Rattle.mr_task.proofs.reduce.reduce_task.Goals as goal

pub loop-region-preserved : goal.loop-region-preserved
loop-region-preserved c =
    let rs : List RegionText = c.args.regions.now in
    let i : ℕ = c.loop-region.region-index in
    let r : RegionText = c.region-item.result in
    let next : take (i + 1) rs ≡ take i rs ++ r ∷ [] = take_more rs i r (omega arith) ∙ ap (λ (y : RegionText). take i rs ++ y ∷ []) (sym c.region-item.is) in
    let t = c.in_ok-take.ensures.taken c.if-not-branch.false in
    record {
      partition = c.in_ok-take.ensures.partition ∙ c.loop-region.invariant.partition;
      taken = subst (λ (l : List RegionText). IsOfRegions l c.take.new.self) (sym next)
          (taken-more (take i rs) r c.loop-region.all c.take.new.self t.0 c.loop-region.invariant.taken t.1 c.in_ok-take.ensures.partition t.2);
    }

pub returns-then-not-branch-clause-damaged : goal.returns-then-not-branch-clause-damaged
returns-then-not-branch-clause-damaged c = λ e can.
    let r : RegionText = c.region-item.result in
    let s = spelled-at c.args.partition c.args.regions.now c.loop-region.region-index r can.values (omega arith) c.region-item.is can.spelled in
    c.in_ok-take.ensures.damaged c.if-not-branch.true s.0 (subst (λ (p : ℕ). SpellsRegion r.bytes r.split p s.0) (sym c.loop-region.invariant.partition) s.1)

pub returns-clause-reduced : goal.returns-clause-reduced
returns-clause-reduced c =
    let rs : List RegionText = c.args.regions.now in
    let taken : IsOfRegions rs c.loop-region.all =
    subst (λ (l : List RegionText). IsOfRegions l c.loop-region.all) (take_all c.loop-region.region-index rs (omega arith)) c.loop-region.invariant.taken in
    subst (λ (p : ℕ). IfOk c.reduce_pairs.result (IsReduced (text_of c.args.job.now) p rs)) c.loop-region.invariant.partition (c.reduce_pairs.ensures.reduced rs taken)

pub returns-clause-damaged : goal.returns-clause-damaged
returns-clause-damaged c =
    let rs : List RegionText = c.args.regions.now in
    let taken : IsOfRegions rs c.loop-region.all =
    subst (λ (l : List RegionText). IsOfRegions l c.loop-region.all) (take_all c.loop-region.region-index rs (omega arith)) c.loop-region.invariant.taken in
    subst (λ (p : ℕ). IfErr c.reduce_pairs.result (λ e. e ≡ RegionDamaged → CanMerge p rs → ⊥)) c.loop-region.invariant.partition (c.reduce_pairs.ensures.damaged rs taken)
