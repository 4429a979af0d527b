use Rattle.std.proofs.Common.{◌∙◌, sym, arith}
use Rattle.std.proofs.lemmas.Fmt.{parse-decimal}
use Rattle.mr_jobs.proofs.NameLemmas.{decimal_text, small_number}
use Rattle.mr_jobs.proofs.field.number_of.Goals as goal

pub returns-in_default : goal.returns-in_default
returns-in_default c = λ number fits is. absurd (c.in_default.ensures.cases.0 (decimal_text number c.args.digits.now fits is))

pub returns-in-Ok-parse : goal.returns-in-Ok-parse
returns-in-Ok-parse c = λ number fits is.
    let parsed = parse-decimal 32 number c.in-Ok.text.now c.parse.result (small_number number fits) (omega (arith, small_number number fits)) (c.in-Ok.ensures.cases.0 ∙ is) c.parse.ensures.value.0 in
    cc (sym c.in-Ok-parse.is ∙ parsed)

pub returns-in-Err : goal.returns-in-Err
returns-in-Err c = λ number fits is.
    let parsed = parse-decimal 32 number c.in-Ok.text.now c.parse.result (small_number number fits) (omega (arith, small_number number fits)) (c.in-Ok.ensures.cases.0 ∙ is) c.parse.ensures.value.0 in
    absurd (cc (sym c.in-Err.is ∙ parsed))
