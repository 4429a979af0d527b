use Rattle.std.proofs.Common.{arith}
use Rattle.std.proofs.lemmas.Bool.{lt-ltb, ltb-true}
use Rattle.mr_files.proofs.RangeLemmas.{front_read}
use Rattle.mr_files.proofs.ranges.read_front.Goals as goal

pub returns-clause-read : goal.returns-clause-read
returns-clause-read g c =
    let first = c.in_ok-bytes.ensures in
    let second = c.in_ok-ends.ensures in
    front_read (g.R.CountedRead.remaining c.args.reader.now) (g.R.CountedRead.remaining c.read_up_to.new.reader) (g.R.CountedRead.remaining c.read_up_to-2.new.reader)
    c.args.count c.args.keep c.in_ok-bytes.bytes.items c.in_ok-ends.field-0-0.items c.in_ok-bytes.lacking c.in_ok-ends.ends _
    first.read (omega (arith, c.if-lacking-gt0.false)) second.read second.end (ltb-true 0 c.in_ok-ends.ends) (lt-ltb 0 c.in_ok-ends.ends)
