use Rattle.std.proofs.Common.{◌≤◌, length, arith, sym, ◌∙◌}
use Rattle.std.proofs.lemmas.Bool.{eqb-false}
use Rattle.mr_judge.specs.Readers.{reading}
use Rattle.mr_judge.proofs.ReadingLemmas.{some_to_come, front_passed, front_ends}
use Rattle.mr_judge.proofs.readers.ReaderOutputsOutputs.pass_text.Goals as goal

pub returns-in_err-fill-clause-some : goal.returns-in_err-fill-clause-some
returns-in_err-fill-clause-some g c some = some_to_come _

pub returns-in_err-same-clause-some : goal.returns-in_err-same-clause-some
returns-in_err-same-clause-some g c some = some_to_come _

pub returns-then-same-eq0-clause-some : goal.returns-then-same-eq0-clause-some
returns-then-same-eq0-clause-some g c some = some_to_come _

pub returns-clause-some : goal.returns-clause-some
returns-clause-some g c some = some_to_come _

pub returns-then-same-eq0-clause-compares : goal.returns-then-same-eq0-clause-compares
returns-then-same-eq0-clause-compares g c =
    let e = c.in_ok-same.ensures in
    let some : 1 ≤ length c.loop-wanted.wanted.now = omega (arith, eqb-false (length c.loop-wanted.wanted.now) 0 (sym c.is_empty.ensures ∙ c.loop-wanted-test.true)) in
    front_ends (reading g.R.CountedRead.remaining c.args.self.now) (reading g.R.CountedRead.remaining c.loop-wanted.self) (reading g.R.CountedRead.remaining c.fill.new.self) (reading g.R.CountedRead.remaining c.pass_held.new.self) c.args.text.now c.loop-wanted.wanted.now c.in_ok-same.same
    c.args.self.now.passed c.loop-wanted.self.passed c.fill.new.self.passed c.pass_held.new.self.passed c.loop-wanted.invariant.front c.fill.ensures.come e.come c.fill.ensures.same.1 e.passed c.if-same-eq0.true some (e.none c.if-same-eq0.true)

pub loop-wanted-preserved : goal.loop-wanted-preserved
loop-wanted-preserved g c =
    let e = c.in_ok-same.ensures in
    record {
      front = front_passed (reading g.R.CountedRead.remaining c.args.self.now) (reading g.R.CountedRead.remaining c.loop-wanted.self) (reading g.R.CountedRead.remaining c.fill.new.self) (reading g.R.CountedRead.remaining c.pass_held.new.self) c.args.text.now c.loop-wanted.wanted.now c.behind-wanted.result.now c.in_ok-same.same
          c.args.self.now.passed c.loop-wanted.self.passed c.fill.new.self.passed c.pass_held.new.self.passed c.loop-wanted.invariant.front c.fill.ensures.come e.come c.fill.ensures.same.1 e.passed e.within c.behind-wanted.ensures;
      begun = omega (arith, c.loop-wanted.invariant.begun, c.fill.ensures.same.0, e.same);
      failed = e.lacks ∙ (c.in_ok-fill.ensures.lacks ∙ c.loop-wanted.invariant.failed);
    }
