use Rattle.std.proofs.Common.{sym, subst, inl, inr, arith}
use Rattle.std.proofs.lemmas.Bool.{false≢true}
use Rattle.mr_shards.specs.Joined.{IsNearSpot}
use Rattle.mr_shards.specs.Spots.{Spot, shifted_spot}
use Rattle.mr_shards.proofs.JoinLemmas.{spot-one}
use Rattle.mr_shards.proofs.joining.add_spots.Goals as goal

pub returns-in_default-clause-near : goal.returns-in_default-clause-near
returns-in_default-clause-near c = (
  λ e. absurd (false≢true e),
  λ all.
      let near = subst (λ (s : Spot). IsNearSpot (shifted_spot c.args.shift s)) (sym c.spot-item.is) (spot-one c.args.shift c.args.more.now c.loop-spot.spot-index _ c.loop-spot-test.true all) in
      absurd (elim c.in_default.ensures [ inl file ↦ omega (arith, file, near.0) | inr start ↦ omega (arith, start, near.1) ]),
)
