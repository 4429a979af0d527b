use Rattle.std.proofs.Common.{◌≡◌, ◌∷◌, [], ◌+◌, get_or, drop, refl, sym, subst, arith}
use Rattle.std.proofs.lemmas.List.{drop_more, drop_all}
use Rattle.std.specs.List.{flat_map}
use Rattle.mr_certform.specs.Spelling.{u64}
use Rattle.mr_certform.proofs.Pieces.{put_next}
use Rattle.mr_certform.proofs.writing.put_input.Goals as goal

pub loop-length-preserved : goal.loop-length-preserved
loop-length-preserved g c =
    let e : drop c.loop-length.length-index c.args.lengths.now ≡ get_or c.args.lengths.now c.loop-length.length-index 0 ∷ drop (c.loop-length.length-index + 1) c.args.lengths.now = drop_more c.args.lengths.now c.loop-length.length-index 0 c.loop-length-test.true in
    put_next g.O.Sink.takes g.met.O.Sink.joined u64 _ _ _ c.put_number.new.out c.loop-length.out c.put_long.new.out _ _ e refl c.in_ok-put_long.ensures c.loop-length.invariant

pub returns : goal.returns
returns g c =
    let takes = g.O.Sink.takes in
    let out = c.loop-length.out in
    let none : drop c.loop-length.length-index c.args.lengths.now ≡ [] = drop_all c.loop-length.length-index c.args.lengths.now (omega (arith, c.loop-length-test.false)) in
    g.met.O.Sink.joined c.args.out.now c.put_number.new.out out _ _ c.in_ok-put_number.ensures (c.loop-length.invariant out (subst (λ w. takes out out (flat_map u64 w)) (sym none) (g.met.O.Sink.none out)))
