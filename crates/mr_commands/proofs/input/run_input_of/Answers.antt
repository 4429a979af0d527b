use Rattle.std.proofs.Common.{ℕ, List, ◌++◌, ap, map, option_map, subst}
use Rattle.std.specs.Prelude.{string_bytes}
use Rattle.std.proofs.lemmas.Result.{err_from_is_err_and}
use Rattle.mr_commands.specs.Inputs.{IsInputRefusal}
use Rattle.mr_commands.specs.Named.{input_names, names_in, stretch_of}
use Rattle.mr_commands.proofs.JudgingRefused.{asked}
use Rattle.mr_commands.proofs.Refused.{run_input_stage}
use Rattle.mr_commands.proofs.input.run_input_of.Goals as goal

pub returns-in_err-input-clause-refused : goal.returns-in_err-input-clause-refused
returns-in_err-input-clause-refused g c =
    let p = err_from_is_err_and c.from_residual-in_err-input.result c.from_residual-in_err-input.ensures.1 in
    let holds = g.S.Store.holds c.args.store.now in
    let known = g.S.Store.known_as c.args.store.now in
    let unreadable = g.S.Store.unreadable c.args.store.now in
    let o = c.args.options.now in
    let request = c.in_ok-request.request in
    let e = c.in_err-input.field-0.0 in
    let a = asked o request c.in_ok-request.ensures.other c.in_ok-request.ensures.within c.in_ok-request.ensures.range in
    let alone = subst (λ (b : List (List ℕ)). IsInputRefusal holds unreadable known (stretch_of o) (b ++ input_names o) (map string_bytes c.in_ok-written.written.items) request.split e) (ap (map string_bytes) c.new-besides.ensures.items) c.in_err-input.ensures.refused in
    let refused = subst (λ (w : List (List ℕ)). IsInputRefusal holds unreadable known (stretch_of o) (input_names o) w request.split e) c.in_ok-written.ensures alone in
    rw p.1 (rw p.2 (run_input_stage holds unreadable known o c.args.skips.now (names_in (option_map (λ s. s.now) c.args.dir) o.parts) c.in_ok-skips.skips.items request e c.in_ok-request.ensures.request a c.in_ok-skips.ensures.ok refused))
