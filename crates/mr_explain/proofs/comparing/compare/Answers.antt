use Rattle.std.proofs.Common.{sym, ◌∙◌, arith}
use Rattle.mr_explain.proofs.LineLemmas.{agrees-is, ends_even, ends_short, goes_on, stops}
use Rattle.mr_explain.proofs.comparing.compare.Goals as goal

pub returns-in_default-text_behind-clause-answer : goal.returns-in_default-text_behind-clause-answer
returns-in_default-text_behind-clause-answer c =
    sym (stops c.args.part.now c.args.key.now c.args.text.now c.loop-end.at c.in-Some.end c.min.result c.loop-end.expected c.in-Some.ensures c.min.ensures
    c.text_behind.result (record { other = c.text_behind.ensures.other; same = c.text_behind.ensures.same }) c.in_default-text_behind.is)
    ∙ c.loop-end.invariant.left

pub loop-end-preserved : goal.loop-end-preserved
loop-end-preserved c =
    record {
      within = c.in-Some-text_behind.ensures.within;
      inside = omega (arith, c.in-Some.ensures.within);
      left = sym (goes_on c.args.part.now c.args.key.now c.args.text.now c.loop-end.at c.in-Some.end c.min.result c.loop-end.expected c.in-Some.ensures c.min.ensures
          c.text_behind.result c.in-Some-text_behind.next (record { other = c.text_behind.ensures.other; same = c.text_behind.ensures.same }) c.in-Some-text_behind.is)
          ∙ c.loop-end.invariant.left;
    }

pub returns-then-expected-text-clause-answer : goal.returns-then-expected-text-clause-answer
returns-then-expected-text-clause-answer c =
    sym (ends_short c.args.part.now c.args.key.now c.args.text.now c.loop-end.at c.loop-end.expected c.in_default.ensures c.if-expected-text.true)
    ∙ c.loop-end.invariant.left

pub returns-else-expected-text-clause-answer : goal.returns-else-expected-text-clause-answer
returns-else-expected-text-clause-answer c =
    sym (ends_even c.args.part.now c.args.key.now c.args.text.now c.loop-end.at c.loop-end.expected c.in_default.ensures c.if-expected-text.false)
    ∙ c.loop-end.invariant.left

pub returns-in_default-text_behind-clause-agrees : goal.returns-in_default-text_behind-clause-agrees
returns-in_default-text_behind-clause-agrees c = agrees-is c.args.part.now c.args.key.now c.args.text.now _ (returns-in_default-text_behind-clause-answer c)

pub returns-then-expected-text-clause-agrees : goal.returns-then-expected-text-clause-agrees
returns-then-expected-text-clause-agrees c = agrees-is c.args.part.now c.args.key.now c.args.text.now _ (returns-then-expected-text-clause-answer c)

pub returns-else-expected-text-clause-agrees : goal.returns-else-expected-text-clause-agrees
returns-else-expected-text-clause-agrees c = agrees-is c.args.part.now c.args.key.now c.args.text.now _ (returns-else-expected-text-clause-answer c)
