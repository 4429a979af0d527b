use Rattle.std.proofs.lemmas.Result.{err_from_is_err_and}
use Rattle.mr_files.proofs.Lists.{one_certificate, one_part}
use Rattle.mr_files.proofs.reading.try_result.Goals as goal

pub returns-in_err-try_file-clause-refused : goal.returns-in_err-try_file-clause-refused
returns-in_err-try_file-clause-refused g c =
    let p = err_from_is_err_and c.from_residual-in_err-try_file.result c.from_residual-in_err-try_file.ensures.1 in
    let unread = rw (c.as_str.ensures.value, c.in_ok-name.ensures) at c.in_err-try_file.ensures in
    rw p.1 (rw p.2 (one_part (g.S.Store.unreadable c.args.store.now) c.args.dir.now c.loop-part.part c.args.parts c.in_err-try_file.field-0.0 c.loop-part-test.true unread))

pub returns-in_err-try_file-2-clause-refused : goal.returns-in_err-try_file-2-clause-refused
returns-in_err-try_file-2-clause-refused g c =
    let p = err_from_is_err_and c.from_residual-in_err-try_file-2.result c.from_residual-in_err-try_file-2.ensures.1 in
    let unread = rw (c.as_str-2.ensures.value, c.in_ok-last.ensures) at c.in_err-try_file-2.ensures in
    rw p.1 (rw p.2 (one_certificate (g.S.Store.unreadable c.args.store.now) c.args.dir.now c.args.parts c.in_err-try_file-2.field-0.0 unread))
