use Rattle.std.proofs.Common.{refl}
use Rattle.std.proofs.lemmas.Option.{slice_get_past}
use Rattle.std.proofs.lemmas.Result.{IfOk-from_err}
use Rattle.mr_core.proofs.Lookups.{found}
use Rattle.mr_core.proofs.splits.longer_list.Goals as goal

pub returns-in_err-with-in-Some : goal.returns-in_err-with-in-Some
returns-in_err-with-in-Some c = IfOk-from_err c.from_residual.result _ c.from_residual.ensures.0

pub returns-in_ok-with-in-Some : goal.returns-in_ok-with-in-Some
returns-in_ok-with-in-Some c =
    let lists = c.args.lists.now in
    (c.in-Some.list.now, found lists lists c.args.at c.in-Some.list.now refl c.in-Some.ensures.lookup.3.0 c.in-Some.ensures.lookup.1, c.in_ok-with-in-Some.ensures)

pub returns-in-None : goal.returns-in-None
returns-in-None c = slice_get_past c.args.lists.now c.args.at c.in-None.ensures.lookup.3
