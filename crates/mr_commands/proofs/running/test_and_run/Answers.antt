use Rattle.std.proofs.Common.{◌++◌, inl, inr, subst}
use Rattle.std.proofs.lemmas.Result.{err_from_is_err_and}
use Rattle.mr_core.specs.declared.event.Shape.{Shape}
use Rattle.mr_jobs.specs.JobSpec.{RequestSpec}
use Rattle.mr_files.specs.Identities.{AreApart}
use Rattle.mr_commands.specs.Inputs.{IsInput, IsInputRefusal}
use Rattle.mr_commands.specs.Named.{input_names, stretch_of}
use Rattle.mr_commands.specs.Runs.{AreGood, EndsOver, scratch_name}
use Rattle.mr_commands.proofs.JudgingRefused.{asked, by_names}
use Rattle.mr_commands.proofs.Kept.{script_stage, input_stage, scratch_stage, runs}
use Rattle.mr_commands.proofs.running.test_and_run.Goals as goal

pub returns-in_err-expect_crew-clause-refused : goal.returns-in_err-expect_crew-clause-refused
returns-in_err-expect_crew-clause-refused g c =
    let p = err_from_is_err_and c.from_residual-in_err-expect_crew.result c.from_residual-in_err-expect_crew.ensures.1 in
    let job = asked c.args.asked.now.options c.in_ok-request.request c.in_ok-request.ensures.other c.in_ok-request.ensures.within c.in_ok-request.ensures.range in
    rw p.1 (rw p.2 (inr (inl (job, c.in_err-expect_crew.ensures.refused))))

pub returns-in_err-script-clause-refused : goal.returns-in_err-script-clause-refused
returns-in_err-script-clause-refused g c =
    let p = err_from_is_err_and c.from_residual-in_err-script.result c.from_residual-in_err-script.ensures.1 in
    let o = c.args.asked.now in
    let good : AreGood o = record {
      job = asked o.options c.in_ok-request.request c.in_ok-request.ensures.other c.in_ok-request.ensures.within c.in_ok-request.ensures.range;
      workers = c.in_ok-expect_crew.ensures.workers;
      attempts = c.in_ok-expect_crew.ensures.attempts;
    } in
    rw p.1 (rw p.2 (script_stage (g.S.Store.holds c.args.store.now) (g.S.Store.unreadable c.args.store.now) (g.S.Store.alike c.args.store.now) (g.S.Store.known_as c.args.store.now) o c.in_err-script.field-0.0 good c.in_err-script.ensures.refused))

pub returns-in_err-input-clause-refused : goal.returns-in_err-input-clause-refused
returns-in_err-input-clause-refused g c =
    let p = err_from_is_err_and c.from_residual-in_err-input.result c.from_residual-in_err-input.ensures.1 in
    let o = c.args.asked.now in
    let good : AreGood o = record {
      job = asked o.options c.in_ok-request.request c.in_ok-request.ensures.other c.in_ok-request.ensures.within c.in_ok-request.ensures.range;
      workers = c.in_ok-expect_crew.ensures.workers;
      attempts = c.in_ok-expect_crew.ensures.attempts;
    } in
    let refused = by_names (λ b w. IsInputRefusal (g.S.Store.holds c.args.store.now) (g.S.Store.unreadable c.args.store.now) (g.S.Store.known_as c.args.store.now) (stretch_of o.options)
    (b ++ input_names o.options) w c.in_ok-request.request.split c.in_err-input.field-0.0) _ _ _ _ c.in_ok-besides.ensures c.in_ok-written.ensures c.in_err-input.ensures.refused in
    rw p.1 (rw p.2 (input_stage (g.S.Store.holds c.args.store.now) (g.S.Store.unreadable c.args.store.now) (g.S.Store.alike c.args.store.now) (g.S.Store.known_as c.args.store.now) o c.in_ok-script.script c.in_ok-request.request c.in_err-input.field-0.0
    c.in_ok-request.ensures.request good c.in_ok-script.ensures.script refused))

pub returns-clause-runs : goal.returns-clause-runs
returns-clause-runs g c =
    let holds = g.S.Store.holds c.args.store.now in
    let known = g.S.Store.known_as c.args.store.now in
    let o = c.args.asked.now in
    let request = c.in_ok-request.request in
    let files = c.in_ok-input.input in
    let script = c.in_ok-script.script in
    let apart = by_names (λ b w. AreApart (g.S.Store.known_as c.args.store.now) (b ++ input_names c.args.asked.now.options) w) _ _ _ _ c.in_ok-besides.ensures c.in_ok-written.ensures c.in_ok-input.ensures.apart in
    runs holds (g.S.Store.unreadable c.args.store.now) (g.S.Store.alike c.args.store.now) known o script files request c.in_ok-ran.ran
    c.in_ok-request.ensures.request c.in_ok-script.ensures.script (c.in_ok-input.field-0-1, c.in_ok-input.ensures.input) apart
    (subst (λ (shape : Shape). EndsOver (scratch_name o) request files script shape o.version c.in_ok-ran.ran) c.shape_of.ensures.shape c.in_ok-ran.ensures.ends)

pub returns-clause-inputs : goal.returns-clause-inputs
returns-clause-inputs g c =
    let o = c.args.asked.now.options in (
      c.in_ok-input.input,
      subst (λ (v : RequestSpec). IsInput (g.S.Store.holds c.args.store.now) (stretch_of o) v.split c.in_ok-input.input) c.in_ok-request.ensures.request (c.in_ok-input.field-0-1, c.in_ok-input.ensures.input),
      c.in_ok-inputs.ensures,
    )

pub returns-in_err-expect_scratch_apart-clause-refused : goal.returns-in_err-expect_scratch_apart-clause-refused
returns-in_err-expect_scratch_apart-clause-refused g c =
    let p = err_from_is_err_and c.from_residual-in_err-expect_scratch_apart.result c.from_residual-in_err-expect_scratch_apart.ensures.1 in
    let o = c.args.asked.now in
    let good : AreGood o = record {
      job = asked o.options c.in_ok-request.request c.in_ok-request.ensures.other c.in_ok-request.ensures.within c.in_ok-request.ensures.range;
      workers = c.in_ok-expect_crew.ensures.workers;
      attempts = c.in_ok-expect_crew.ensures.attempts;
    } in
    let apart = by_names (λ b w. AreApart (g.S.Store.known_as c.args.store.now) (b ++ input_names c.args.asked.now.options) w) _ _ _ _ c.in_ok-besides.ensures c.in_ok-written.ensures c.in_ok-input.ensures.apart in
    rw p.1 (rw p.2 (scratch_stage (g.S.Store.holds c.args.store.now) (g.S.Store.unreadable c.args.store.now) (g.S.Store.alike c.args.store.now) (g.S.Store.known_as c.args.store.now) o
    c.in_ok-script.script c.in_ok-input.input c.in_ok-request.request c.in_err-expect_scratch_apart.field-0.0
    c.in_ok-request.ensures.request good c.in_ok-script.ensures.script (c.in_ok-input.field-0-1, c.in_ok-input.ensures.input) apart (inl c.in_err-expect_scratch_apart.ensures)))

pub returns-in_err-ran-clause-refused : goal.returns-in_err-ran-clause-refused
returns-in_err-ran-clause-refused g c =
    let p = err_from_is_err_and c.from_residual-in_err-ran.result c.from_residual-in_err-ran.ensures.1 in
    let holds = g.S.Store.holds c.args.store.now in
    let unreadable = g.S.Store.unreadable c.args.store.now in
    let alike = g.S.Store.alike c.args.store.now in
    let known = g.S.Store.known_as c.args.store.now in
    let o = c.args.asked.now in
    let good : AreGood o = record {
      job = asked o.options c.in_ok-request.request c.in_ok-request.ensures.other c.in_ok-request.ensures.within c.in_ok-request.ensures.range;
      workers = c.in_ok-expect_crew.ensures.workers;
      attempts = c.in_ok-expect_crew.ensures.attempts;
    } in
    let apart = by_names (λ b w. AreApart (g.S.Store.known_as c.args.store.now) (b ++ input_names c.args.asked.now.options) w) _ _ _ _ c.in_ok-besides.ensures c.in_ok-written.ensures c.in_ok-input.ensures.apart in
    rw p.1 (rw p.2 (scratch_stage holds unreadable alike known o c.in_ok-script.script c.in_ok-input.input c.in_ok-request.request c.in_err-ran.field-0.0
    c.in_ok-request.ensures.request good c.in_ok-script.ensures.script (c.in_ok-input.field-0-1, c.in_ok-input.ensures.input) apart (inr c.in_err-ran.ensures.refused)))
