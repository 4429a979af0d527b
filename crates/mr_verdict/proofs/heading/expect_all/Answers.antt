use Rattle.std.proofs.Common.{Err, ◌+◌, drop, get_or, arith, ◌∙◌}
use Rattle.std.proofs.lemmas.List.{drop_more}
use Rattle.std.proofs.lemmas.Result.{err_from_is_err_and}
use Rattle.mr_certform.specs.declared.grammar_state.Item.TheVariants.{Magic}
use Rattle.mr_verdict.proofs.ItemLemmas.{leads_on, leads_not, stops_on}
use Rattle.mr_verdict.proofs.heading.expect_all.Goals as goal

pub loop-item-preserved : goal.loop-item-preserved
loop-item-preserved g c =
    let ws = c.args.wanted.now in
    let i = c.loop-item.item-index in
    let gives = g.I.ItemSource.gives in
    record {
      leads = leads_on (gives c.args.items.now) (gives c.loop-item.items) (gives c.expect.new.items) (get_or ws i Magic) (drop i ws) (drop (i + 1) ws) ws c.args.fault (drop_more ws i Magic c.loop-item-test.true) c.loop-item.invariant.leads c.in_ok-expect.ensures.met;
      sound = c.in_ok-expect.ensures.sound;
      count = c.in_ok-expect.ensures.stops ∙ c.loop-item.invariant.count;
      fewer = omega (arith, c.in_ok-expect.ensures.fewer, c.loop-item.invariant.fewer);
    }

pub returns-in_err-expect-clause-met : goal.returns-in_err-expect-clause-met
returns-in_err-expect-clause-met g c =
    let ws = c.args.wanted.now in
    let i = c.loop-item.item-index in
    let gives = g.I.ItemSource.gives in
    let p = err_from_is_err_and c.from_residual.result c.from_residual.ensures.1 in
    rw (p.1, p.2) (leads_not (gives c.args.items.now) (gives c.loop-item.items) (get_or ws i Magic) (drop i ws) (drop (i + 1) ws) ws c.args.fault c.in_err-expect.field-0.0 (drop_more ws i Magic c.loop-item-test.true) c.loop-item.invariant.leads c.in_err-expect.ensures.met)

pub returns-in_err-expect-clause-stops : goal.returns-in_err-expect-clause-stops
returns-in_err-expect-clause-stops g c =
    let failed = g.I.ItemSource.failed in
    let p = err_from_is_err_and c.from_residual.result c.from_residual.ensures.1 in
    rw (p.1, p.2) (stops_on g.I.ItemSource.steady (failed c.args.items.now) (failed c.loop-item.items) (failed c.expect.new.items) (Err c.in_err-expect.field-0.0) c.loop-item.invariant.count c.in_err-expect.ensures.stops)
