use Rattle.std.proofs.Common.{◌≡◌, ◌+◌, ℕ, ◌++◌, ◌∷◌, [], List, map, slice_range, sym, ◌∙◌, ap, arith}
use Rattle.std.proofs.lemmas.List.FromFn.{map-range_with_len_more}
use Rattle.std.specs.List.{flat_map, range_with_len}
use Rattle.mr_partition.specs.Hosts.{partition_by}
use Rattle.mr_spill.specs.Groups.{pairs_of}
use Rattle.mr_spill.specs.Regions.{region}
use Rattle.mr_spill.proofs.regions.cut.Goals as goal

pub range_of-requires : goal.range_of-requires
range_of-requires c = omega (arith, c.loop-part-test.true, c.in_ok-cut.ensures.count)

pub region_of-requires : goal.region_of-requires
region_of-requires c =
    let within = c.in_ok-cut.ensures.within c.loop-part.part (omega (arith, c.loop-part-test.true, c.in_ok-cut.ensures.count)) in
    record { order = omega (arith, within.0); within = omega (arith, within.1) }

pub loop-part-preserved : goal.loop-part-preserved
loop-part-preserved c =
    let p : ℕ = c.loop-part.part in
    let here : List ℕ → ℕ = λ k. partition_by c.args.by k c.args.parts in
    let one : c.in_ok-region_of.field-0 ≡ region here c.args.pairs.now p =
    c.in_ok-region_of.ensures
    ∙ (λ i. flat_map pairs_of (slice_range c.in_ok-cut.cut.groups (c.range_of.ensures.begin i) (c.range_of.ensures.end i)))
    ∙ c.in_ok-cut.ensures.each p c.loop-part-test.true in
    c.in_ok-push.ensures.items
    ∙ (λ i. c.loop-part.invariant i ++ one i ∷ [])
    ∙ sym (map-range_with_len_more (region here c.args.pairs.now) 0 p p (let e : 0 + p ≡ p = omega arith in e))

pub loop-part-init : goal.loop-part-init
loop-part-init c = c.in_ok-regions.ensures.items

pub returns : goal.returns
returns c =
    let end : c.loop-part.part ≡ c.args.parts = omega (arith, c.loop-part-test.false, c.loop-part.auto.part-end) in
    c.loop-part.invariant ∙ ap (λ (n : ℕ). map (region (λ k. partition_by c.args.by k c.args.parts) c.args.pairs.now) (range_with_len 0 n)) end
