use Rattle.std.proofs.Common.{inl, inr, sym, subst, ◌∙◌}
use Rattle.std.specs.Prelude.{string_bytes}
use Rattle.std.proofs.lemmas.Result.{err_from_is_err_and}
use Rattle.mr_input.specs.Files.{contents}
use Rattle.mr_commands.specs.Answers.{HasPairs, written_by_seq}
use Rattle.mr_commands.proofs.Refused.{known_work, work_run_stage, works_out, pairless}
use Rattle.mr_commands.proofs.commands.test_and_work.Goals as goal

pub returns-clause-work : goal.returns-clause-work
returns-clause-work g c = λ bytes spelled.
    let o = c.args.asked.now in
    let run = c.in_ok-run.run' in
    let work = c.in_ok-work.work in
    works_out (g.S.Store.holds c.args.store.now) (g.S.Store.known_as c.args.store.now) o run (contents work.outputs.items) bytes (string_bytes work.line)
    c.in_ok-run.ensures.input c.in_ok-run.ensures.apart (c.in_ok-work.ensures.result o.version bytes spelled) c.in_ok-work.ensures.line
    (subst (HasPairs o.need_pairs) c.in_ok-work.ensures.pairs c.in_ok-expect_pairs.ensures.some)

pub returns-clause-facts : goal.returns-clause-facts
returns-clause-facts g c =
    let work = c.in_ok-work.work in
    known_work (g.S.Store.holds c.args.store.now) c.args.asked.now c.in_ok-run.run' (contents work.outputs.items) (string_bytes work.line) work.pairs work.job
    c.in_ok-run.ensures.input c.in_ok-work.ensures.texts c.in_ok-work.ensures.line c.in_ok-work.ensures.pairs c.in_ok-work.ensures.job

pub returns-clause-can : goal.returns-clause-can
returns-clause-can g c = c.in_ok-work.ensures.can c.args.asked.now.version

pub returns-in_err-work-clause-refused : goal.returns-in_err-work-clause-refused
returns-in_err-work-clause-refused g c =
    let p = err_from_is_err_and c.from_residual-in_err-work.result c.from_residual-in_err-work.ensures.1 in
    let o = c.args.asked.now in
    rw p.1 (rw p.2 (inl (work_run_stage (g.S.Store.holds c.args.store.now) (g.S.Store.unreadable c.args.store.now) (g.S.Store.known_as c.args.store.now) o.options o.skips.now (written_by_seq o) c.in_ok-run.run' c.in_err-work.field-0.0
    c.in_ok-run.ensures.input c.in_ok-run.ensures.apart c.in_err-work.ensures.refused)))

pub returns-in_err-expect_pairs-clause-refused : goal.returns-in_err-expect_pairs-clause-refused
returns-in_err-expect_pairs-clause-refused g c =
    let p = err_from_is_err_and c.from_residual-in_err-expect_pairs.result c.from_residual-in_err-expect_pairs.ensures.1 in
    let told = c.in_err-expect_pairs.ensures.refused in
    let none = sym c.in_ok-work.ensures.pairs ∙ told.2 in
    rw p.1 (rw p.2 (rw told.0 (inr (pairless (g.S.Store.holds c.args.store.now) (g.S.Store.known_as c.args.store.now) c.args.asked.now c.in_ok-run.run'
    c.in_ok-run.ensures.input c.in_ok-run.ensures.apart c.in_ok-work.ensures.allowed told.1 none))))
