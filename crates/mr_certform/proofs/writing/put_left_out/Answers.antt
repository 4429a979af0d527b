use Rattle.std.proofs.Common.{◌≡◌, ◌∷◌, [], ◌+◌, get_or, drop, sym, subst, arith}
use Rattle.std.proofs.lemmas.List.{drop_more, drop_all}
use Rattle.std.specs.List.{flat_map, AllByRecursion}
use Rattle.mr_certform.specs.Spelling.{skip_bytes}
use Rattle.mr_certform.specs.Value.{SkipFits}
use Rattle.mr_certform.proofs.Pieces.{one_more, put_next}
use Rattle.mr_certform.proofs.writing.put_left_out.Goals as goal

pub loop-skip-preserved : goal.loop-skip-preserved
loop-skip-preserved g c =
    let e : drop c.loop-skip.skip-index c.args.skips.now ≡ get_or c.args.skips.now c.loop-skip.skip-index (record { split = 0; rec = 0 }) ∷ drop (c.loop-skip.skip-index + 1) c.args.skips.now = drop_more c.args.skips.now c.loop-skip.skip-index (record { split = 0; rec = 0 }) c.loop-skip-test.true in
    record {
      spelled = put_next g.O.Sink.takes g.met.O.Sink.joined skip_bytes _ _ _ c.put_number.new.out c.loop-skip.out c.put.new.self c.spelled_skip.result _ e c.spelled_skip.ensures.text c.in_ok-put.ensures c.loop-skip.invariant.spelled;
      fits = one_more SkipFits _ _ _ _ e c.spelled_skip.ensures.fits c.loop-skip.invariant.fits;
    }

pub returns : goal.returns
returns g c =
    let takes = g.O.Sink.takes in
    let out = c.loop-skip.out in
    let none : drop c.loop-skip.skip-index c.args.skips.now ≡ [] = drop_all c.loop-skip.skip-index c.args.skips.now (omega (arith, c.loop-skip-test.false)) in (
      g.met.O.Sink.joined c.args.out.now c.put_number.new.out out _ _ c.in_ok-put_number.ensures (c.loop-skip.invariant.spelled out (subst (λ w. takes out out (flat_map skip_bytes w)) (sym none) (g.met.O.Sink.none out))),
      c.loop-skip.invariant.fits (subst (AllByRecursion SkipFits) (sym none) tt),
    )
