use Rattle.std.proofs.lemmas.Result.{err_from_is_err_and}
use Rattle.mr_shard_files.proofs.SettleLemmas.{is_other, is_settled}
use Rattle.mr_shard_files.proofs.VerifyLemmas.{another, noted, unopened_part, unread_first, unread_later}
use Rattle.mr_shard_files.proofs.verifying.test_part.Goals as goal

pub returns-in_err-part-clause-err : goal.returns-in_err-part-clause-err
returns-in_err-part-clause-err g c =
    let p = err_from_is_err_and c.from_residual.result c.from_residual.ensures.1 in
    rw p.1 (rw p.2 (unopened_part (g.S.Store.holds c.args.store.now) (g.S.Store.unreadable c.args.store.now) c.args.partition c.args.beside.now c.args.verdict.now c.in_err-part.field-0.0 c.in_err-part.ensures.err))

pub returns-in_err-total-clause-err : goal.returns-in_err-total-clause-err
returns-in_err-total-clause-err g c =
    let p = err_from_is_err_and c.from_residual-in_err-total.result c.from_residual-in_err-total.ensures.1 in
    rw p.1 (rw p.2 (unread_first g.S.Reader.CountedRead.remaining g.S.Reader.CountedRead.can_fail (g.S.Store.holds c.args.store.now) (g.S.Store.unreadable c.args.store.now) c.args.partition
    c.args.beside.now c.args.verdict.now c.in_ok-part.part c.in_err-total.field-0.0 c.in_ok-part.ensures.ok c.in_err-total.ensures.err))

pub returns-in_err-settle-clause-err : goal.returns-in_err-settle-clause-err
returns-in_err-settle-clause-err g c =
    let p = err_from_is_err_and c.from_residual-in_err-settle.result c.from_residual-in_err-settle.ensures.1 in
    let counted = c.in_ok-total.ensures.ok in
    rw p.1 (rw p.2 (unread_later g.S.Reader.CountedRead.remaining g.S.Reader.CountedRead.can_fail (g.S.Store.holds c.args.store.now) (g.S.Store.unreadable c.args.store.now) c.args.partition
    c.args.beside.now c.args.verdict.now counted.0 c.in_ok-part.part c.count_part.new.part c.in_err-settle.field-0.0 c.in_ok-part.ensures.ok counted.1 c.in_err-settle.ensures.err))

pub returns-then-branch-clause-ok : goal.returns-then-branch-clause-ok
returns-then-branch-clause-ok g c =
    let remaining = g.S.Reader.CountedRead.remaining in
    let can_fail = g.S.Reader.CountedRead.can_fail in
    let p = c.args.partition in
    let v = c.args.verdict.now in
    let counted = c.in_ok-total.ensures.ok in
    let settled = is_settled remaining can_fail p v c.in_ok-settle.field-0 c.count_part.new.part c.settle.new.part c.if-branch.true c.in_ok-settle.ensures.ends in
    noted remaining can_fail (g.S.Store.holds c.args.store.now) (g.S.Store.unreadable c.args.store.now) p c.args.job.now c.args.beside.now v counted.0 c.in_ok-part.part c.count_part.new.part c.settle.new.part
    c.in_ok-total.total c.in_ok-part.ensures.ok counted.1 c.in_ok-total.ensures.done counted.2 settled

pub returns-clause-err : goal.returns-clause-err
returns-clause-err g c =
    let remaining = g.S.Reader.CountedRead.remaining in
    let can_fail = g.S.Reader.CountedRead.can_fail in
    let p = c.args.partition in
    let v = c.args.verdict.now in
    let counted = c.in_ok-total.ensures.ok in
    let other = is_other remaining can_fail p v c.in_ok-settle.field-0 c.count_part.new.part c.settle.new.part c.if-branch.false c.in_ok-settle.ensures.ends in
    another remaining can_fail (g.S.Store.holds c.args.store.now) (g.S.Store.unreadable c.args.store.now) p c.args.beside.now v counted.0 c.in_ok-part.part c.count_part.new.part c.in_ok-part.ensures.ok counted.1 other
