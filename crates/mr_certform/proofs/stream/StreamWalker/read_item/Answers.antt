use Rattle.mr_certform.specs.Streaming.{Stream, stream}
use Rattle.mr_certform.proofs.Streams.{gives_back, told_back}
use Rattle.mr_certform.proofs.stream.StreamWalker.read_item.Goals as goal

pub returns-clause-told : goal.returns-clause-told
returns-clause-told g c =
    let old : Stream = stream g.R.CountedRead.remaining c.args.self.now in
    let mid : Stream = stream g.R.CountedRead.remaining c.fill.new.self in
    let new : Stream = stream g.R.CountedRead.remaining c.step.new.self in
    let e = c.fill.ensures in
    told_back old mid new c.step.result (gives_back old mid e.same.0 e.same.1 e.same.2 e.bytes) c.step.ensures.told
