use Rattle.std.proofs.Common.{◌∙◌, [], ap, length, sym, refl, eqb-true}
use Rattle.std.proofs.lemmas.Bool.{eqb-false}
use Rattle.mr_shards.proofs.NumberLemmas.{number-all, number-only}
use Rattle.mr_shards.proofs.numbers.number_of.Goals as goal

pub returns-in_err-number : goal.returns-in_err-number
returns-in_err-number c = rw c.from_residual.ensures (λ n small e. c.in_err-number.ensures.none refl n [] (number-only c.args.digits.now n small e))

pub returns-else-is_empty : goal.returns-else-is_empty
returns-else-is_empty c = λ n small e.
    let is = c.in_ok-number.ensures.some.one n [] (number-only c.args.digits.now n small e) in
    eqb-false (length c.in_ok-number.rest.now) 0 (sym c.is_empty.ensures ∙ c.if-is_empty.false) (ap length (sym is.1))

pub returns-then-is_empty : goal.returns-then-is_empty
returns-then-is_empty c =
    number-all c.args.digits.now c.in_ok-number.number c.in_ok-number.rest.now c.in_ok-number.ensures.some (eqb-true (length c.in_ok-number.rest.now) 0 (sym c.is_empty.ensures ∙ c.if-is_empty.true))
