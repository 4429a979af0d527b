use Rattle.std.proofs.Common.{arith, rules, ◌≡◌, ◌<◌, ◌+◌, ap, length, get_or, take, vec_len, vec_capacity, length-append}
use Rattle.std.specs.List.{flat_map}
use Rattle.mr_reduce.specs.Files.{listed}
use Rattle.mr_reduce.specs.Text.{place_line}
use Rattle.mr_bytes.specs.declared.Value.TheVariants.{One}
use Rattle.std.proofs.lemmas.List.Folds.{length-flat_map-take}
use Rattle.mr_reduce.proofs.TextLemmas.{front-kept}
use Rattle.mr_reduce.proofs.put_places.Goals as goal

pub returns-in_err-put_place : goal.returns-in_err-put_place
returns-in_err-put_place c =
    let before = c.args.out.now in
    let middle = c.loop-i.out in
    let values = (listed c.args.values) in
    let i = c.loop-i.i in
    let line = place_line c.args.key.now in
    let inside : i < length values = omega (arith, c.loop-i-test.true, c.len-i-end.ensures) in
    let part = length-flat_map-take line values i One inside in
    let here : length (line c.get.result) ≡ length (line (get_or values i One)) = ap (λ v. length (line v)) c.get.ensures in
    let few : vec_capacity before < vec_len before + length (flat_map line values) =
    omega (
      arith,
      part,
      here,
      c.in_err-put_place.ensures.full,
      c.loop-i.invariant.room,
      ap length c.loop-i.invariant.text,
      length-append before.items (flat_map line (take i values)),
      before.ok.0,
      middle.ok.0,
    ) in
    record {
      kept = front-kept (vec_len before) (vec_len middle) before.items (flat_map line (take i values)) middle.items c.put_place.new.out.items
          c.loop-i.invariant.text (omega (arith, before.ok.0)) (omega (arith, middle.ok.0)) c.put_place.ensures.kept;
      ok = search rules;
      full = search (rules, few);
      capacity = omega (arith, c.loop-i.invariant.room, c.put_place.ensures.capacity);
    }
