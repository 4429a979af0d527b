use Rattle.std.proofs.Common.{arith}
use Rattle.mr_jobs.proofs.NameLemmas.{separated_name}
use Rattle.mr_jobs.proofs.field.name_parts.Goals as goal

pub returns-in-Some : goal.returns-in-Some
returns-in-Some c =
    let other = c.if-not-is_ascii_digit.ensures.cases in
    separated_name c.args.name.now c.in-Some.digits.now c.in-Some.first.now c.in-Some.ensures.cases.0 (λ low high. omega (arith, low, high, other))
