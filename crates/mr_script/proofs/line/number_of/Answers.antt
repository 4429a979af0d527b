use Rattle.std.proofs.Common.{◌≡◌, ◌∙◌, sym, arith, length}
use Rattle.std.proofs.lemmas.Bool.{eqb-false}
use Rattle.mr_script.proofs.Numbers.{number_fits, number_no, number_tells}
use Rattle.mr_script.proofs.line.number_of.Goals as goal

pub returns-in_err-value : goal.returns-in_err-value
returns-in_err-value c =
    let meaning = c.from_residual.ensures ∙ sym (number_no c.args.word.now (λ h. c.in_err-value.ensures h.digits)) in
    record { meaning = meaning; spelled = number_tells c.args.word.now c.from_residual.result meaning }

pub returns : goal.returns
returns c =
    let word = c.args.word.now in
    let some : length word ≡ 0 → ⊥ = eqb-false (length word) 0 (sym c.is_empty.ensures ∙ c.if-is_empty.false) in
    let meaning = c.ok.ensures.value ∙ number_fits word c.in_ok-value.value c.try_from.result (omega arith) (omega arith) c.in_ok-value.ensures.0 c.in_ok-value.ensures.1 c.try_from.ensures in
    record { meaning = meaning; spelled = number_tells word c.ok.result meaning }
