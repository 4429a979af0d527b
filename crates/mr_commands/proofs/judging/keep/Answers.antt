use Rattle.std.proofs.Common.{ℕ, List, [], ◌∷◌, subst}
use Rattle.std.proofs.lemmas.Result.{IfErr-weaker}
use Rattle.mr_files.specs.Holding.{Begins}
use Rattle.mr_files.specs.Refusals.{IsUnwritten, IsWriteRefusal}
use Rattle.mr_commands.proofs.Told.{one_write}
use Rattle.mr_commands.proofs.judging.keep.Goals as goal

pub returns-clause-refused : goal.returns-clause-refused
returns-clause-refused g c =
    let old = g.S.Store.holds c.args.store.now in
    let new = g.S.Store.holds c.write_file.new.store in
    let unwritable = g.S.Store.unwritable c.args.store.now in
    let name = c.in-Some.name.now in
    let text = c.in-Some-text.text.items in
    let begins = subst (λ (v : List ℕ). Begins old new name v) c.as_slice.ensures.value c.write_file.ensures.begins in
    rw c.in-Some.is (rw c.in-Some-text.is (IfErr-weaker c.write_file.result (λ e. IsUnwritten unwritable name e) (λ e. IsWriteRefusal old new unwritable (name ∷ []) (text ∷ []) e)
    (λ e h. one_write old new unwritable name text e h begins c.write_file.ensures.others) c.write_file.ensures.refused))
