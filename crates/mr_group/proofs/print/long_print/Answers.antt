use Rattle.std.proofs.Common.{◌∙◌, arith}
use Rattle.mr_group.proofs.KeyLemmas.{both-ends}
use Rattle.mr_group.proofs.print.long_print.Goals as goal

pub returns : goal.returns
returns c =
    let first = c.in_ok-first.ensures.cases in
    let last = c.in_ok-last.ensures.cases in
    record {
      long = λ enough few.
          both-ends 8 c.args.key.now _ _ enough (omega (arith, few)) (c.number_of_eight.ensures ∙ first.same) (c.number_of_eight-2.ensures ∙ last.1.same);
      short = λ enough few. absurd (omega (arith, few, last.0));
      least = λ few. absurd (omega (arith, few, last.0));
    }
