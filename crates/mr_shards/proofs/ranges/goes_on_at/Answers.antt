use Rattle.std.proofs.Common.{◌∙◌}
use Rattle.mr_shards.specs.RangeNotes.{goes_on}
use Rattle.mr_shards.proofs.GapLemmas.{goes-at, goes-first, goes-past}
use Rattle.mr_shards.proofs.ranges.goes_on_at.Goals as goal

pub returns-then-at-eq0 : goal.returns-then-at-eq0
returns-then-at-eq0 c = goes-first c.args.ranges.now c.args.at c.if-at-eq0.true

pub returns-then-at-ranges : goal.returns-then-at-ranges
returns-then-at-ranges c = goes-past c.args.ranges.now c.args.at c.if-at-ranges.true

pub returns : goal.returns
returns c =
    c.goes_on.ensures ∙ (λ i. goes_on (c.index-ranges-at.is i) (c.index-ranges-at-2.is i))
    ∙ goes-at c.args.ranges.now c.args.at c.index-ranges-at.result c.index-ranges-at-2.result c.if-at-eq0.false c.if-at-ranges.false
