use Rattle.std.proofs.Common.{[], ◌∷◌}
use Rattle.std.proofs.lemmas.Result.{IfErr-weaker}
use Rattle.mr_files.specs.Refusals.{IsUnwritten, IsWriteRefusal}
use Rattle.mr_commands.proofs.OldVerdictLemmas.{first_refused}
use Rattle.mr_commands.proofs.old_verdicts.empty_verdict.Goals as goal

pub returns-in-Some-clause-refused : goal.returns-in-Some-clause-refused
returns-in-Some-clause-refused g c =
    let old = g.S.Store.holds c.args.store.now in
    let new = g.S.Store.holds c.write_file.new.store in
    let unwritable = g.S.Store.unwritable c.args.store.now in
    let name = c.in-Some.name.now in
    rw c.in-Some.is (IfErr-weaker c.write_file.result (λ e. IsUnwritten unwritable name e) (λ e. IsWriteRefusal old new unwritable (name ∷ []) ([] ∷ []) e)
    (λ e u. first_refused old new unwritable name e c.write_file.ensures.begins c.write_file.ensures.others u) c.write_file.ensures.refused)
