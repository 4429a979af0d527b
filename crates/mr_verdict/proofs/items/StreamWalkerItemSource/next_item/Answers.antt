use Rattle.std.proofs.Common.{subst, Err, arith}
use Rattle.mr_certform.specs.declared.stream.StreamFault.{StreamFault}
use Rattle.mr_certform.specs.Streaming.{Stream, Told, stream}
use Rattle.mr_certform.proofs.Streams.{some_given}
use Rattle.mr_verdict.proofs.ItemBytes.{some_byte}
use Rattle.mr_verdict.proofs.items.StreamWalkerItemSource.next_item.Goals as goal

pub returns-then-place-clause-some : goal.returns-then-place-clause-some
returns-then-place-clause-some g c = some_given (stream g.R.CountedRead.remaining c.args.self.now)

pub returns-in-Ok-clause-some : goal.returns-in-Ok-clause-some
returns-in-Ok-clause-some g c = some_given (stream g.R.CountedRead.remaining c.next.new.self)

pub returns-in-Ok-clause-fewer : goal.returns-in-Ok-clause-fewer
returns-in-Ok-clause-fewer g c more =
    let byte = some_byte c.next.new.self.version c.args.self.now.place c.in-Ok.item more in
    omega (arith, byte, c.in-Ok.ensures.place.1, c.if-place.false)

pub returns-in-Err-Malformed-clause-took : goal.returns-in-Err-Malformed-clause-took
returns-in-Err-Malformed-clause-took g c =
    let old : Stream = stream g.R.CountedRead.remaining c.args.self.now in
    let new : Stream = stream g.R.CountedRead.remaining c.next.new.self in
    subst (λ (e : StreamFault). Told old new (Err e)) c.in-Err-Malformed.field-0-is (c.in-Err-Malformed.ensures.told c.requires.sound)

pub returns-in-Err-Malformed-clause-some : goal.returns-in-Err-Malformed-clause-some
returns-in-Err-Malformed-clause-some g c = some_given (stream g.R.CountedRead.remaining c.next.new.self)

pub returns-in-Err-Device-clause-some : goal.returns-in-Err-Device-clause-some
returns-in-Err-Device-clause-some g c = some_given (stream g.R.CountedRead.remaining c.next.new.self)
