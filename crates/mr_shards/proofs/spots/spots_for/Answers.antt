use Rattle.std.proofs.Common.{◌≡◌, ◌<◌, ◌∙◌, length, map, sym, ap, arith}
use Rattle.std.proofs.lemmas.Bool.{eqb-true}
use Rattle.std.proofs.lemmas.List.{nil_from_length, take_all}
use Rattle.mr_splits.specs.Named.{named_records}
use Rattle.mr_shards.proofs.NameSpotLemmas.{no-spots, spot_named, spots-named}
use Rattle.mr_shards.proofs.spots.spots_for.Goals as goal

pub returns-then-is_empty : goal.returns-then-is_empty
returns-then-is_empty c =
    let none : length c.args.skips.now ≡ 0 = eqb-true (length c.args.skips.now) 0 (sym c.is_empty.ensures ∙ c.if-is_empty.true) in
    c.new-spots.ensures.items ∙ no-spots c.args.request.now.split c.args.input.now c.args.skips.now (nil_from_length c.args.skips.now none)

pub returns : goal.returns
returns c =
    let size = c.args.request.now.split in
    let some : 0 < size = omega (arith, c.split_size.ensures.same, c.split_size.ensures.within.0) in
    c.loop-name.invariant
    ∙ ap (map (spot_named (named_records size c.args.input.now))) (take_all c.loop-name.name-index c.args.skips.now c.loop-name-test.false)
    ∙ spots-named size c.args.input.now c.args.skips.now some c.requires.rise c.requires.exist
