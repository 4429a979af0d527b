use Rattle.std.proofs.Common.{◌≡◌, ℕ, ◌++◌, List, slice_range, sym, ◌∙◌, ap, arith}
use Rattle.std.specs.List.{flat_map}
use Rattle.mr_bytes.specs.Pairs.{Triple}
use Rattle.mr_spill.specs.Groups.{nth_group, pairs_of}
use Rattle.mr_spill.proofs.SealedLemmas.{groups-more, groups-none}
use Rattle.mr_spill.proofs.regions.region_of.Goals as goal

pub loop-g-preserved : goal.loop-g-preserved
loop-g-preserved c =
    c.in_ok-put_group.ensures
    ∙ ap (λ (l : List Triple). l ++ (nth_group c.args.groups.now c.loop-g.g).pairs) c.loop-g.invariant
    ∙ sym (groups-more c.args.groups.now c.args.range.0 c.loop-g.g c.loop-g.auto.g (omega (arith, c.loop-g-test.true, c.requires.within)))

pub loop-g-init : goal.loop-g-init
loop-g-init c = c.new-region.ensures ∙ sym (groups-none c.args.groups.now c.args.range.0)

pub returns : goal.returns
returns c =
    let end : c.loop-g.g ≡ c.args.range.1 = omega (arith, c.loop-g-test.false, c.loop-g.auto.g-end c.requires.order) in
    c.loop-g.invariant ∙ ap (λ (n : ℕ). flat_map pairs_of (slice_range c.args.groups.now c.args.range.0 n)) end
