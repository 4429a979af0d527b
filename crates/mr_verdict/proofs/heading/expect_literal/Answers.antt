use Rattle.std.proofs.Common.{Err, ◌+◌, drop, get_or, map, ap, arith, ◌∙◌}
use Rattle.std.proofs.lemmas.List.{drop_more}
use Rattle.std.proofs.lemmas.Result.{err_from_is_err_and}
use Rattle.mr_certform.specs.declared.grammar_state.Item.TheVariants.{LiteralByte}
use Rattle.mr_verdict.specs.declared.answers.No.TheVariants.{OtherJob}
use Rattle.mr_verdict.proofs.ItemLemmas.{leads_on, leads_not, stops_on}
use Rattle.mr_verdict.proofs.heading.expect_literal.Goals as goal

pub loop-byte-preserved : goal.loop-byte-preserved
loop-byte-preserved g c =
    let bs = c.args.literal.now in
    let i = c.loop-byte.byte-index in
    let gives = g.I.ItemSource.gives in
    record {
      leads = leads_on (gives c.args.items.now) (gives c.loop-byte.items) (gives c.expect.new.items) (LiteralByte (get_or bs i 0)) (map LiteralByte (drop i bs)) (map LiteralByte (drop (i + 1) bs)) (map LiteralByte bs) OtherJob (ap (map LiteralByte) (drop_more bs i 0 c.loop-byte-test.true)) c.loop-byte.invariant.leads c.in_ok-expect.ensures.met;
      sound = c.in_ok-expect.ensures.sound;
      count = c.in_ok-expect.ensures.stops ∙ c.loop-byte.invariant.count;
      fewer = omega (arith, c.in_ok-expect.ensures.fewer, c.loop-byte.invariant.fewer);
    }

pub returns-in_err-expect-clause-met : goal.returns-in_err-expect-clause-met
returns-in_err-expect-clause-met g c =
    let bs = c.args.literal.now in
    let i = c.loop-byte.byte-index in
    let gives = g.I.ItemSource.gives in
    let p = err_from_is_err_and c.from_residual.result c.from_residual.ensures.1 in
    rw (p.1, p.2) (leads_not (gives c.args.items.now) (gives c.loop-byte.items) (LiteralByte (get_or bs i 0)) (map LiteralByte (drop i bs)) (map LiteralByte (drop (i + 1) bs)) (map LiteralByte bs) OtherJob c.in_err-expect.field-0.0 (ap (map LiteralByte) (drop_more bs i 0 c.loop-byte-test.true)) c.loop-byte.invariant.leads c.in_err-expect.ensures.met)

pub returns-in_err-expect-clause-stops : goal.returns-in_err-expect-clause-stops
returns-in_err-expect-clause-stops g c =
    let failed = g.I.ItemSource.failed in
    let p = err_from_is_err_and c.from_residual.result c.from_residual.ensures.1 in
    rw (p.1, p.2) (stops_on g.I.ItemSource.steady (failed c.args.items.now) (failed c.loop-byte.items) (failed c.expect.new.items) (Err c.in_err-expect.field-0.0) c.loop-byte.invariant.count c.in_err-expect.ensures.stops)
