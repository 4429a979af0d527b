use Rattle.std.proofs.Common.{◌++◌}
use Rattle.std.proofs.lemmas.Result.{err_from_is_err_and, IfErr-weaker, IfOk-weaker}
use Rattle.mr_commands.specs.Checks.{AreGood, IsCheckRefusal}
use Rattle.mr_files.specs.Identities.{AreApart}
use Rattle.mr_commands.specs.Inputs.{IsInputRefusal}
use Rattle.mr_commands.specs.Named.{input_names, stretch_of}
use Rattle.mr_commands.specs.Judgements.{Judges}
use Rattle.mr_commands.proofs.JudgingRefused.{asked, by_names, input_stage, option_stage, result_stage}
use Rattle.mr_commands.proofs.Told.{judges}
use Rattle.mr_commands.proofs.judging.judge_asked.Goals as goal

pub returns-in_err-expect_options-clause-refused : goal.returns-in_err-expect_options-clause-refused
returns-in_err-expect_options-clause-refused g c =
    let p = err_from_is_err_and c.from_residual-in_err-expect_options.result c.from_residual-in_err-expect_options.ensures.1 in
    let job = asked c.args.asked.now.options c.in_ok-request.request c.in_ok-request.ensures.other c.in_ok-request.ensures.within c.in_ok-request.ensures.range in
    rw p.1 (rw p.2 (option_stage (g.S.Store.holds c.args.store.now) (g.S.Store.unreadable c.args.store.now) (g.S.Store.known_as c.args.store.now) c.args.asked.now c.in_err-expect_options.field-0.0 job c.in_err-expect_options.ensures.refused))

pub returns-in_err-input-clause-refused : goal.returns-in_err-input-clause-refused
returns-in_err-input-clause-refused g c =
    let p = err_from_is_err_and c.from_residual-in_err-input.result c.from_residual-in_err-input.ensures.1 in
    let job = asked c.args.asked.now.options c.in_ok-request.request c.in_ok-request.ensures.other c.in_ok-request.ensures.within c.in_ok-request.ensures.range in
    let good : AreGood c.args.asked.now = record { job = job; threads = c.in_ok-expect_options.ensures.threads; clear = c.in_ok-expect_options.ensures.clear } in
    let refused = by_names (λ b w. IsInputRefusal (g.S.Store.holds c.args.store.now) (g.S.Store.unreadable c.args.store.now) (g.S.Store.known_as c.args.store.now) (stretch_of c.args.asked.now.options)
    (b ++ input_names c.args.asked.now.options) w c.in_ok-request.request.split c.in_err-input.field-0.0) _ _ _ _ c.in_ok-besides.ensures c.in_ok-written.ensures c.in_err-input.ensures.refused in
    rw p.1 (rw p.2 (input_stage (g.S.Store.holds c.args.store.now) (g.S.Store.unreadable c.args.store.now) (g.S.Store.known_as c.args.store.now) c.args.asked.now c.in_ok-request.request c.in_err-input.field-0.0 c.in_ok-request.ensures.request good refused))

pub returns-clause-refused : goal.returns-clause-refused
returns-clause-refused g c =
    let job = asked c.args.asked.now.options c.in_ok-request.request c.in_ok-request.ensures.other c.in_ok-request.ensures.within c.in_ok-request.ensures.range in
    let good : AreGood c.args.asked.now = record { job = job; threads = c.in_ok-expect_options.ensures.threads; clear = c.in_ok-expect_options.ensures.clear } in
    let apart = by_names (λ b w. AreApart (g.S.Store.known_as c.args.store.now) (b ++ input_names c.args.asked.now.options) w) _ _ _ _ c.in_ok-besides.ensures c.in_ok-written.ensures c.in_ok-input.ensures.apart in
    IfErr-weaker c.judge_result.result _ (λ e. IsCheckRefusal (g.S.Store.holds c.args.store.now) (g.S.Store.unreadable c.args.store.now) (g.S.Store.known_as c.args.store.now) c.args.asked.now e)
    (λ e h. result_stage (g.S.Store.holds c.args.store.now) (g.S.Store.unreadable c.args.store.now) (g.S.Store.known_as c.args.store.now) c.args.asked.now c.in_ok-input.input c.in_ok-request.request e c.in_ok-request.ensures.request good (c.in_ok-input.ends, c.in_ok-input.ensures.input) apart h)
    c.judge_result.ensures.refused

pub returns-clause-judges : goal.returns-clause-judges
returns-clause-judges g c =
    let holds = g.S.Store.holds c.args.store.now in
    let known = g.S.Store.known_as c.args.store.now in
    let apart = by_names (λ b w. AreApart known (b ++ input_names c.args.asked.now.options) w) _ _ _ _ c.in_ok-besides.ensures c.in_ok-written.ensures c.in_ok-input.ensures.apart in
    IfOk-weaker c.judge_result.result _ (λ j. Judges holds known c.args.asked.now j)
    (λ j h. judges holds known c.args.asked.now c.in_ok-request.request c.in_ok-input.input c.in_ok-input.ends j c.in_ok-request.ensures.request c.in_ok-input.ensures.input apart c.in_ok-expect_options.ensures.clear h) c.judge_result.ensures.judged
