use Rattle.std.proofs.Common.{ℕ, ◌<◌, List, [], ◌∷◌, ◌++◌, length, map, take, ap, sym, ◌∙◌, arith}
use Rattle.std.proofs.lemmas.List.{length-map, length-take, map-append, take_more}
use Rattle.mr_bytes.specs.declared.Value.{Value}
use Rattle.mr_bytes.specs.Pairs.{Triple}
use Rattle.mr_spill.specs.Column.{no_pair, nth_pair}
use Rattle.mr_spill.specs.Groups.{nth_group}
use Rattle.mr_task.proofs.output.put_values.Goals as goal

pub push-requires : goal.push-requires
push-requires c =
    let ts : List Triple = (nth_group c.args.groups.now c.args.g).pairs in
    omega (
      arith,
      c.count-i-end.type_inv,
      c.loop-i-test.true,
      ap length c.loop-i.invariant,
      length-map (take c.loop-i.i ts) (λ (t : Triple). t.value),
      length-take c.loop-i.i ts,
    )

pub loop-i-preserved : goal.loop-i-preserved
loop-i-preserved c =
    let ts : List Triple = (nth_group c.args.groups.now c.args.g).pairs in
    let i : ℕ = c.loop-i.i in
    let within : i < length ts = omega (arith, c.loop-i-test.true, c.count-i-end.ensures.count) in
    c.in_ok-push.ensures.ok
    ∙ ap (λ (l : List Value). l ++ c.value.result ∷ []) c.loop-i.invariant
    ∙ ap (λ (v : Value). map (λ (t : Triple). t.value) (take i ts) ++ v ∷ []) c.value.ensures
    ∙ sym (ap (map (λ (t : Triple). t.value)) (take_more ts i no_pair within) ∙ map-append (λ (t : Triple). t.value) (take i ts) (nth_pair ts i ∷ []))
