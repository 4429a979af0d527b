use Rattle.std.proofs.Common.{arith}
use Rattle.mr_check.proofs.SectionLemmas.{some_more}
use Rattle.mr_check.proofs.joining.join.Goals as goal

pub loop-here-preserved : goal.loop-here-preserved
loop-here-preserved c = record {
  few = omega (arith, c.in-Some.ensures.walks, c.loop-here-test.true);
  small = c.in-Some.ensures.small;
  came = λ k all sections walked. c.in-Some.ensures.came k all sections walked (c.loop-here.invariant.came k all sections walked);
}

pub returns-clause-joined : goal.returns-clause-joined
returns-clause-joined c k all sections walked =
    let came = c.loop-here.invariant.came k all sections walked in
    record {
      section = record { within = came.within; section = came.section; joined = came.joined };
      ended = some_more c.end-here.result _ _ (λ n f. f k all c.args.sections.now walked came) c.end-here.ensures;
    }
