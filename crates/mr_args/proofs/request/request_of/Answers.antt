use Rattle.std.proofs.lemmas.Result.{err_from_is_err_and}
use Rattle.mr_args.proofs.request.request_of.Goals as goal

pub returns-in_err-expect_range-clause-fault : goal.returns-in_err-expect_range-clause-fault
returns-in_err-expect_range-clause-fault c =
    let p = err_from_is_err_and c.from_residual-in_err-expect_range.result c.from_residual-in_err-expect_range.ensures.1 in
    rw p.1 (rw p.2 (c.in_err-expect_range.ensures.refused (λ a. cc (c.in_ok-request.ensures.other.1 a)) c.in_ok-request.ensures.within))
