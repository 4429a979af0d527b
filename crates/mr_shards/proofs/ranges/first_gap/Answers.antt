use Rattle.std.proofs.Common.{◌≡◌, ℕ, arith, inl, inr, subst}
use Rattle.std.proofs.lemmas.Bool.{cases_lt}
use Rattle.mr_shards.specs.Gaps.{Stands}
use Rattle.mr_shards.proofs.GapLemmas.{tile-all}
use Rattle.mr_shards.proofs.ranges.first_gap.Goals as goal

pub loop-at-preserved : goal.loop-at-preserved
loop-at-preserved c = λ k h. elim (cases_lt k c.loop-at.at) [
  | inl less ↦ c.loop-at.invariant k less
  | inr up ↦ (let same : c.loop-at.at ≡ k = omega (arith, h, up) in subst (λ (i : ℕ). Stands c.args.partial c.args.ranges.now i) same c.in_default.ensures)
]

pub returns : goal.returns
returns c = tile-all c.args.partial c.args.ranges.now (λ i h. c.loop-at.invariant i (omega (arith, h, c.loop-at-test.false)))
