use Rattle.std.proofs.Common.{◌≡◌, ◌<◌, ◌^◌, ap, arith}
use Rattle.mr_shards.specs.RangeNotes.{RangeNote}
use Rattle.mr_shards.proofs.GapLemmas.{goes-nowhere}
use Rattle.mr_shards.proofs.ranges.goes_on.Goals as goal

pub returns-in_default : goal.returns-in_default
returns-in_default c =
    let from : c.first.inside.from ≡ c.args.first.now.from = ap (λ (n : RangeNote). n.from) c.first.view_is in
    let size : c.first.inside.length ≡ c.args.first.now.length = ap (λ (n : RangeNote). n.length) c.first.view_is in
    let next : c.second.inside.from ≡ c.args.second.now.from = ap (λ (n : RangeNote). n.from) c.second.view_is in
    let near : c.args.second.now.from < 2 ^ 64 = omega (arith, next) in
    goes-nowhere c.args.first.now c.args.second.now (λ h. c.in_default.ensures (omega (arith, from, size, h))) near
