use Rattle.std.proofs.Common.{arith}
use Rattle.mr_judge.specs.Readers.{reading}
use Rattle.mr_judge.proofs.ReadingLemmas.{ends, some_to_come}
use Rattle.mr_judge.proofs.readers.ReaderOutputsOutputs.is_passed.Goals as goal

pub returns-in_err-fill-clause-some : goal.returns-in_err-fill-clause-some
returns-in_err-fill-clause-some g c some = some_to_come _

pub returns-clause-ends : goal.returns-clause-ends
returns-clause-ends g c =
    ends (reading g.R.CountedRead.remaining c.args.self.now) (reading g.R.CountedRead.remaining c.fill.new.self) c.bytes.result.now c.is_empty.result
    (omega (arith, c.requires.begun, c.fill.ensures.same.0)) c.in_ok-fill.ensures.filled c.fill.ensures.come c.bytes.ensures c.is_empty.ensures

pub returns-clause-some : goal.returns-clause-some
returns-clause-some g c some = some_to_come _
