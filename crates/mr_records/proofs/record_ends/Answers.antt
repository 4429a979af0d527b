use Rattle.std.proofs.Common.{sym}
use Rattle.mr_records.proofs.EndLemmas.{shut_ends, open_ends, few_ends}
use Rattle.mr_records.proofs.LawLemmas.{few_records}
use Rattle.mr_records.proofs.record_ends.Goals as goal

pub returns-then-not-is_open-clause-rise : goal.returns-then-not-is_open-clause-rise
returns-then-not-is_open-clause-rise c =
    let ended = shut_ends c.args.bytes.now c.new-ends.result.items c.line_ends.new.ends.items c.new-ends.ensures.items c.in_ok-line_ends.ensures.all c.if-not-is_open.ensures in
    ended.0

pub returns-then-not-is_open-clause-few : goal.returns-then-not-is_open-clause-few
returns-then-not-is_open-clause-few c =
    let ended = shut_ends c.args.bytes.now c.new-ends.result.items c.line_ends.new.ends.items c.new-ends.ensures.items c.in_ok-line_ends.ensures.all c.if-not-is_open.ensures in
    few_ends c.args.bytes.now c.line_ends.new.ends.items (few_records c.args.bytes.now) (sym ended.1)

pub returns-then-not-is_open-clause-all : goal.returns-then-not-is_open-clause-all
returns-then-not-is_open-clause-all c =
    let ended = shut_ends c.args.bytes.now c.new-ends.result.items c.line_ends.new.ends.items c.new-ends.ensures.items c.in_ok-line_ends.ensures.all c.if-not-is_open.ensures in
    sym ended.1

pub returns-clause-rise : goal.returns-clause-rise
returns-clause-rise c =
    let ended = open_ends c.args.bytes.now c.new-ends.result.items c.line_ends.new.ends.items c.push.new.self.items c.new-ends.ensures.items c.in_ok-line_ends.ensures.all c.in_ok-push.ensures.items c.if-not-is_open.ensures in
    ended.0

pub returns-clause-few : goal.returns-clause-few
returns-clause-few c =
    let ended = open_ends c.args.bytes.now c.new-ends.result.items c.line_ends.new.ends.items c.push.new.self.items c.new-ends.ensures.items c.in_ok-line_ends.ensures.all c.in_ok-push.ensures.items c.if-not-is_open.ensures in
    few_ends c.args.bytes.now c.push.new.self.items (few_records c.args.bytes.now) (sym ended.1)

pub returns-clause-all : goal.returns-clause-all
returns-clause-all c =
    let ended = open_ends c.args.bytes.now c.new-ends.result.items c.line_ends.new.ends.items c.push.new.self.items c.new-ends.ensures.items c.in_ok-line_ends.ensures.all c.in_ok-push.ensures.items c.if-not-is_open.ensures in
    sym ended.1
