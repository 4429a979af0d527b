use Rattle.std.proofs.Common.{map, arith}
use Rattle.mr_judge.proofs.FromLemmas.{judged, verdict, headline}
use Rattle.mr_judge.proofs.from.judge_readers.Goals as goal

pub returns-clause-judged : goal.returns-clause-judged
returns-clause-judged g c =
    judged c.args.computation.now.request.now c.args.computation.now.input.now _ _ c.judge_from.result (omega (arith, c.split_size-size.ensures.same, c.split_size-size.ensures.within.0)) c.judge_from.ensures.judged

pub returns-clause-verdict : goal.returns-clause-verdict
returns-clause-verdict g c = verdict c.args.computation.now.request.now c.args.computation.now.input.now _ _ c.judge_from.result c.judge_from.ensures.judged

pub returns-clause-headline : goal.returns-clause-headline
returns-clause-headline g c =
    headline c.args.computation.now.request.now c.args.computation.now.input.now (map g.R.CountedRead.remaining c.args.outputs.now) (g.C.CountedRead.remaining c.args.certificate.now) c.judge_from.result (omega (arith, c.split_size-size.ensures.same, c.split_size-size.ensures.within.0))
    (verdict c.args.computation.now.request.now c.args.computation.now.input.now _ _ c.judge_from.result c.judge_from.ensures.judged)
