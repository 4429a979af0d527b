use Rattle.std.proofs.Common.{◌-◌, take, arith}
use Rattle.std.proofs.lemmas.List.{length-take-le}
use Rattle.mr_files.proofs.RangeLemmas.{read_more, read_none}
use Rattle.mr_files.proofs.ranges.read_pieces.Goals as goal

pub loop-left-init : goal.loop-left-init
loop-left-init g c = rw c.new-bytes.ensures.items (record {
  read = read_none (g.R.CountedRead.remaining c.args.reader.now) c.args.most c.args.keep;
  later = λ h. h;
})

pub loop-left-preserved : goal.loop-left-preserved
loop-left-preserved g c =
    let i = c.loop-left.invariant in
    let read = c.in_ok-count.ensures in
    let piece = take c.in_ok-count.count c.read_at_most.new.buffer in
    let held = length-take-le c.in_ok-count.count c.read_at_most.new.buffer (omega (arith, read.bound, read.len, c.min-most.ensures)) in
    let told = c.in_ok-take_piece.ensures in
    record {
      read = read_more (g.R.CountedRead.remaining c.args.reader.now) (g.R.CountedRead.remaining c.loop-left.reader) (g.R.CountedRead.remaining c.read_at_most.new.reader)
          c.args.most c.args.keep c.loop-left.bytes.items piece c.take_piece.new.bytes.items c.loop-left.left (c.loop-left.left - c.in_ok-count.count)
          i.read read.bytes.0 (omega (arith, held, c.if-count-eq0.false)) (omega (arith, held, read.bound, c.min-most.ensures)) told.kept told.last;
      later = λ h. i.later (c.read_at_most.ensures.later h);
    }
