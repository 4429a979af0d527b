use Rattle.std.proofs.Common.{arith, ◌∙◌, sym}
use Rattle.std.proofs.lemmas.List.{at_drop_all}
use Rattle.std.proofs.lemmas.Str.Parse.{digit_at}
use Rattle.std.specs.Str.Parse.{digits_value_after}
use Rattle.mr_script.proofs.Numbers.{by_index}
use Rattle.mr_script.proofs.line.value_of.Goals as goal

pub returns-then-not-is_ascii_digit : goal.returns-then-not-is_ascii_digit
returns-then-not-is_ascii_digit c = λ h. let r = digit_at c.args.digits.now c.loop-digit.digit-index h c.loop-digit-test.true in let o = c.if-not-is_ascii_digit.ensures.cases in omega (arith, r.0, r.1, o)

pub returns : goal.returns
returns c = (
  by_index.to c.args.digits.now (λ i h. c.loop-digit.invariant.each i (omega arith)),
  sym (at_drop_all (digits_value_after 10 c.loop-digit.value) c.args.digits.now c.loop-digit.digit-index c.loop-digit-test.false) ∙ c.loop-digit.invariant.rest,
)
