use Rattle.std.proofs.Common.{ℕ, ◌-◌, ◌==◌, ◌∙◌, List, ap, sym, take, count_by, arith}
use Rattle.std.proofs.lemmas.List.{length-take-le, take-take}
use Rattle.mr_commands.proofs.FeedLemmas.{counted_more, gave_all, gave_more}
use Rattle.mr_commands.proofs.feeds.count_feeds.Goals as goal

pub returns-then-count-left-clause-feeds : goal.returns-then-count-left-clause-feeds
returns-then-count-left-clause-feeds g c =
    let R = g.R.CountedRead.remaining in
    let piece : List ℕ = take c.in_ok-count.count c.read.new.buffer in
    gave_more (R c.args.reader.now) (R c.loop-left.reader) (R c.read.new.self) c.args.most c.loop-left.left c.loop-left.feeds c.line_feeds.result piece
    c.loop-left.invariant.counted c.in_ok-count.ensures.bytes.0
    (omega (arith, length-take-le c.in_ok-count.count c.read.new.buffer c.in_ok-count.ensures.bound, c.if-count-left.true))
    (c.line_feeds.ensures ∙ ap (count_by (λ b. b == 0x0A)) (sym (take-take c.loop-left.left c.in_ok-count.count c.read.new.buffer c.if-count-left.true)))

pub loop-left-preserved : goal.loop-left-preserved
loop-left-preserved g c =
    let R = g.R.CountedRead.remaining in
    let piece : List ℕ = take c.in_ok-count.count c.read.new.buffer in
    let held = length-take-le c.in_ok-count.count c.read.new.buffer c.in_ok-count.ensures.bound in
    record {
      counted = counted_more (R c.args.reader.now) (R c.loop-left.reader) (R c.read.new.self) c.args.most c.loop-left.left (c.loop-left.left - c.in_ok-count.count) c.loop-left.feeds c.line_feeds-in-loop-left.result piece
          c.loop-left.invariant.counted c.in_ok-count.ensures.bytes.0 (omega (arith, held, c.if-count-left.false)) c.line_feeds-in-loop-left.ensures;
      later = λ h. c.loop-left.invariant.later (c.in_ok-count.ensures.later h);
    }

pub returns-clause-feeds : goal.returns-clause-feeds
returns-clause-feeds g c =
    let R = g.R.CountedRead.remaining in
    gave_all (R c.args.reader.now) (R c.loop-left.reader) c.args.most c.loop-left.left c.loop-left.feeds c.loop-left.invariant.counted (omega (arith, c.loop-left-test.false))
