use Rattle.std.proofs.Common.{ℕ, List, ◌∙◌, subst}
use Rattle.std.proofs.lemmas.Result.{err_from_is_err_and}
use Rattle.mr_files.specs.Holding.{Begins}
use Rattle.mr_commands.proofs.Kept.{one_unwritten}
use Rattle.mr_commands.proofs.running.keep_history.Goals as goal

pub returns-in_err-write_file-clause-refused : goal.returns-in_err-write_file-clause-refused
returns-in_err-write_file-clause-refused g c =
    let p = err_from_is_err_and c.from_residual-in_err-write_file.result c.from_residual-in_err-write_file.ensures.1 in
    rw p.1 (rw p.2 (rw c.in-Some.is (one_unwritten (g.S.Store.unwritable c.args.store.now) c.in-Some.name.now c.in_err-write_file.field-0.0 c.in_err-write_file.ensures.refused)))

pub returns-in_err-write_file-clause-begins : goal.returns-in_err-write_file-clause-begins
returns-in_err-write_file-clause-begins g c =
    let holds = g.S.Store.holds in
    rw c.in-Some.is (subst (λ (v : List ℕ). Begins (holds c.args.store.now) (holds c.write_file.new.store) c.in-Some.name.now v) (c.as_bytes.ensures.value ∙ c.in_ok-text.ensures) c.write_file.ensures.begins)

pub returns-clause-begins : goal.returns-clause-begins
returns-clause-begins g c =
    let holds = g.S.Store.holds in
    rw c.in-Some.is (subst (λ (v : List ℕ). Begins (holds c.args.store.now) (holds c.write_file.new.store) c.in-Some.name.now v) (c.as_bytes.ensures.value ∙ c.in_ok-text.ensures) c.write_file.ensures.begins)
