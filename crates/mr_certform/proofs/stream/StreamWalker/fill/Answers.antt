use Rattle.std.proofs.Common.{◌∙◌, ℕ, List, Option, refl}
use Rattle.mr_certform.specs.Streaming.{Stream, stream, coming_from}
use Rattle.mr_certform.proofs.Streams.{filled_more}
use Rattle.mr_certform.proofs.stream.StreamWalker.fill.Goals as goal

pub loop-self-preserved : goal.loop-self-preserved
loop-self-preserved g c =
    let v = c.loop-self.self in
    let held = c.loop-self.invariant in
    let read = c.in_ok-count.ensures in
    let left : Option (List ℕ) = g.R.CountedRead.remaining c.read_more.new.reader in
    let behind : Stream = record { version = v.version; place = v.place; passed = v.passed; held = c.read_more.new.self; coming = coming_from v.exhausted left } in
    record {
      bytes = λ bytes t.
          held.bytes bytes (filled_more (stream g.R.CountedRead.remaining v) behind v.exhausted (g.R.CountedRead.remaining v.reader) left read.more.0 held.more refl refl read.more.2 read.more.3 read.more.4 read.known bytes t);
      version = held.version;
      place = held.place;
      passed = held.passed;
      fault = held.fault;
      more = held.more;
      count = read.count ∙ held.count;
      later = λ fails. held.later (read.later fails);
    }
