use Rattle.std.proofs.Common.{◌≡◌, ℕ, List, length, slice_range, ap, sym, ◌∙◌, arith, length-append}
use Rattle.std.specs.List.{flat_map}
use Rattle.mr_spill.specs.Groups.{Group, nth_group, pairs_of}
use Rattle.mr_spill.proofs.SealedLemmas.{groups-more, groups-none}
use Rattle.mr_spill.proofs.sealed.size_of.Goals as goal

pub loop-g-preserved : goal.loop-g-preserved
loop-g-preserved c =
    let gs : List Group = c.args.groups.now in
    let g : ℕ = c.loop-g.g in
    let more = ap length (groups-more gs c.args.begin g c.loop-g.auto.g (omega (arith, c.loop-g-test.true, c.requires.within))) in
    omega (arith, c.count-more.ensures.count, c.loop-g.invariant, more, length-append (flat_map pairs_of (slice_range gs c.args.begin g)) (nth_group gs g).pairs)

pub loop-g-init : goal.loop-g-init
loop-g-init c = sym (ap length (groups-none c.args.groups.now c.args.begin))

pub returns : goal.returns
returns c =
    let end : c.loop-g.g ≡ c.args.end = omega (arith, c.loop-g-test.false, c.loop-g.auto.g-end c.requires.order) in
    c.loop-g.invariant ∙ ap (λ (n : ℕ). length (flat_map pairs_of (slice_range c.args.groups.now c.args.begin n))) end
