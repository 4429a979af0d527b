use Rattle.std.proofs.lemmas.Result.{err_from_is_err_and}
use Rattle.mr_commands.proofs.Told.{page_refused}
use Rattle.mr_commands.proofs.picturing.write_page.Goals as goal

pub returns-in_err-write_file-clause-refused : goal.returns-in_err-write_file-clause-refused
returns-in_err-write_file-clause-refused g c =
    let p = err_from_is_err_and c.from_residual.result c.from_residual.ensures.1 in
    rw p.1 (page_refused (g.S.Store.holds c.args.store.now) (g.S.Store.holds c.write_file.new.store) (g.S.Store.unwritable c.args.store.now) c.args.name.now c.as_bytes.result.now
    c.in_err-write_file.field-0.0 p.0 c.in_err-write_file.ensures.refused c.write_file.ensures.begins p.2)
