use Rattle.std.proofs.Common.{ap}
use Rattle.std.specs.Prelude.{map}
use Rattle.std.proofs.lemmas.Result.{err_from_is_err_and}
use Rattle.mr_certform.specs.Streaming.{stream, Gives}
use Rattle.mr_certform.proofs.Streams.{some_given}
use Rattle.mr_verdict.specs.Items.{Coming}
use Rattle.mr_judge.specs.Readers.{reading}
use Rattle.mr_judge.specs.Reading.{Reading}
use Rattle.mr_judge.specs.declared.readers.ByRef.{ByRef}
use Rattle.mr_judge.proofs.FromLemmas.{no_room, judged_some, kinds_front}
use Rattle.mr_judge.proofs.ReadingLemmas.{some_to_come}
use Rattle.mr_judge.proofs.from.judge_lent.Goals as goal

pub judge_all-requires-clause-given : goal.judge_all-requires-clause-given
judge_all-requires-clause-given g c =
    some_given (stream (λ (l : ByRef g.row.C.Denot). g.C.CountedRead.remaining l.reader.now) c.in_ok-walker.walker)

pub judge_all-requires-clause-front : goal.judge_all-requires-clause-front
judge_all-requires-clause-front g c =
    kinds_front (Gives (stream (λ (l : ByRef g.row.C.Denot). g.C.CountedRead.remaining l.reader.now) c.in_ok-walker.walker)) _ c.in_ok-walker.ensures.items

pub judge_all-requires-clause-outputs : goal.judge_all-requires-clause-outputs
judge_all-requires-clause-outputs g c = some_to_come (reading g.R.CountedRead.remaining c.in_ok-outputs.outputs)

pub returns-in_err-outputs : goal.returns-in_err-outputs
returns-in_err-outputs g c =
    let p = err_from_is_err_and c.from_residual.result c.from_residual.ensures.1 in
    no_room c.args.computation.now.request.now c.args.computation.now.input.now (map g.R.CountedRead.remaining c.args.outputs.now) (g.C.CountedRead.remaining c.args.certificate.now) c.from_residual.result p.0 c.requires.known p.1 p.2

pub returns-in_err-walker : goal.returns-in_err-walker
returns-in_err-walker g c =
    let p = err_from_is_err_and c.from_residual-in_err-walker.result c.from_residual-in_err-walker.ensures.1 in
    no_room c.args.computation.now.request.now c.args.computation.now.input.now (map g.R.CountedRead.remaining c.args.outputs.now) (g.C.CountedRead.remaining c.args.certificate.now) c.from_residual-in_err-walker.result p.0 c.requires.known p.1 p.2

pub returns : goal.returns
returns g c =
    let r : Reading = reading g.R.CountedRead.remaining c.in_ok-outputs.outputs in
    let gives : Coming = Gives (stream (λ (l : ByRef g.row.C.Denot). g.C.CountedRead.remaining l.reader.now) c.in_ok-walker.walker) in
    judged_some g.R.CountedRead.remaining c.args.outputs.now r (g.C.CountedRead.remaining c.args.certificate.now) gives c.args.computation.now.request.now c.args.computation.now.input.now c.new-work.result.meter.lookups c.judge_all.new.work.meter.lookups c.judge_all.result
    c.in_ok-outputs.ensures.opened (ap (λ xs. map g.R.CountedRead.remaining xs) c.in_ok-outputs.ensures.readers) c.requires.parts c.requires.known c.in_ok-walker.ensures.items c.judge_all.ensures.judged
