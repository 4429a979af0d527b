use Rattle.mr_picture.proofs.ReadingLemmas.{turn-bad, turn-more}
use Rattle.mr_picture.proofs.reading.read_history.Goals as goal

pub returns-in_default-2-clause-err : goal.returns-in_default-2-clause-err
returns-in_default-2-clause-err c =
    turn-bad c.args.text.now c.loop-from.history c.loop-from.from c.loop-from.line c.in_ok-length.field-0 _ c.in_ok-length.ensures c.in_default-2.is
    c.loop-from.invariant.read c.loop-from-test.true c.loop-from.invariant.line

pub loop-from-preserved : goal.loop-from-preserved
loop-from-preserved c =
    let t = turn-more c.args.text.now c.loop-from.history c.add_line.new.history c.loop-from.from c.in-Some-2.length c.loop-from.line c.in_ok-length.field-0 _
    c.in_ok-length.ensures c.in-Some-2.is c.loop-from.invariant.read c.loop-from-test.true c.loop-from.invariant.line in
    record { read = t.0; line = t.1 }
