use Rattle.std.proofs.Common.{◌≡◌, ◌<◌, ◌∙◌, length, true, sym, ap, arith}
use Rattle.mr_shards.specs.RangeNotes.{RangeNote, goes_on}
use Rattle.mr_shards.specs.RangeVerdicts.{last_goes_on}
use Rattle.mr_shards.proofs.PastLemmas.{end-first, goes-empty, goes-last, goes-none}
use Rattle.mr_shards.proofs.shift.end_of_cut.Goals as goal

pub returns-then-count-eq0 : goal.returns-then-count-eq0
returns-then-count-eq0 c = goes-empty c.args.ranges.now c.args.behind.now c.if-count-eq0.true

pub returns-then-more-eq0 : goal.returns-then-more-eq0
returns-then-more-eq0 c = goes-none c.args.ranges.now c.args.behind.now c.if-more-eq0.true

pub returns-then-goes_on : goal.returns-then-goes_on
returns-then-goes_on c =
    let some : 0 < length c.args.ranges.now = omega (arith, c.if-count-eq0.false) in
    let more : 0 < length c.args.behind.now = omega (arith, c.if-more-eq0.false) in
    let goes : last_goes_on c.args.ranges.now c.args.behind.now ≡ true =
    sym (c.goes_on.ensures ∙ (λ i. goes_on (c.index-ranges-count.is i) (c.index-behind-0.is i))
    ∙ goes-last c.args.ranges.now c.args.behind.now c.index-ranges-count.result c.index-behind-0.result some more) ∙ c.if-goes_on.true in
    (goes, ap (λ (n : RangeNote). n.from) (c.first.view_is ∙ c.index-behind-0.is) ∙ end-first c.args.ranges.now c.args.behind.now c.index-behind-0.result goes)

pub returns : goal.returns
returns c =
    let some : 0 < length c.args.ranges.now = omega (arith, c.if-count-eq0.false) in
    let more : 0 < length c.args.behind.now = omega (arith, c.if-more-eq0.false) in
    sym (c.goes_on.ensures ∙ (λ i. goes_on (c.index-ranges-count.is i) (c.index-behind-0.is i))
    ∙ goes-last c.args.ranges.now c.args.behind.now c.index-ranges-count.result c.index-behind-0.result some more) ∙ c.if-goes_on.false
