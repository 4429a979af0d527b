use Rattle.std.proofs.Common.{Option, subst, inr}
use Rattle.std.specs.Prelude.{IfSome}
use Rattle.std.proofs.lemmas.Result.{err_from_is_err_and}
use Rattle.mr_args.specs.declared.request.Subcommand.{Subcommand}
use Rattle.mr_cli.specs.Program.{IsAskedIn}
use Rattle.mr_cli.proofs.program.answer.Goals as goal

pub returns-in_err-execute-in-Some-clause-unanswered : goal.returns-in_err-execute-in-Some-clause-unanswered
returns-in_err-execute-in-Some-clause-unanswered g c =
    let p = err_from_is_err_and c.from_residual-in_err-execute-in-Some.result c.from_residual-in_err-execute-in-Some.ensures.1 in
    let parsed = c.args.line.now in
    let named : IsAskedIn parsed c.in-Some.asked = subst (λ (r : Option Subcommand). IfSome r (λ asked. IsAskedIn parsed asked)) c.in-Some.is c.in_ok-asked.ensures.asked in
    rw p.1 (rw p.2 (inr (record { asked = c.in-Some.asked; named = named; refused = c.in_err-execute-in-Some.ensures.refused; prints = c.in_err-execute-in-Some.ensures.prints })))

pub returns-in_ok-execute-in-Some-clause-answered : goal.returns-in_ok-execute-in-Some-clause-answered
returns-in_ok-execute-in-Some-clause-answered g c =
    let parsed = c.args.line.now in
    let named : IsAskedIn parsed c.in-Some.asked = subst (λ (r : Option Subcommand). IfSome r (λ asked. IsAskedIn parsed asked)) c.in-Some.is c.in_ok-asked.ensures.asked in
    record { asked = c.in-Some.asked; named = named; answers = c.in_ok-execute-in-Some.ensures.answers; others = c.in_ok-execute-in-Some.ensures.others; prints = c.in_ok-execute-in-Some.ensures.prints }
