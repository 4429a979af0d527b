use Rattle.std.proofs.Common.{◌≡◌, ◌*◌, ◌∙◌, ℕ, List, [], Err, ap, length, map, refl, subst, arith}
use Rattle.std.proofs.lemmas.List.{length-map}
use Rattle.std.proofs.lemmas.Result.{err_from_is_err_and}
use Rattle.mr_input.specs.Files.{contents, total_size}
use Rattle.mr_files.specs.Stretches.{Stretch}
use Rattle.mr_commands.specs.Inputs.{IsInputRefusal}
use Rattle.mr_commands.specs.Named.{input_names}
use Rattle.mr_commands.specs.Sifted.{whole_stretch}
use Rattle.mr_commands.proofs.JudgingRefused.{asked}
use Rattle.mr_commands.proofs.Refused.{run_input_stage}
use Rattle.mr_commands.proofs.SiftedLemmas.{kept_input, no_fault, same_stretch}
use Rattle.mr_commands.proofs.sifted.sift_input.Goals as goal

pub returns-in_err-files-clause-refused : goal.returns-in_err-files-clause-refused
returns-in_err-files-clause-refused g c =
    let p = err_from_is_err_and c.from_residual-in_err-files.result c.from_residual-in_err-files.ensures.1 in
    let holds = g.S.Store.holds c.args.store.now in
    let known = g.S.Store.known_as c.args.store.now in
    let unreadable = g.S.Store.unreadable c.args.store.now in
    let o = c.args.options.now in
    let request = c.in_ok-request.request in
    let e = c.in_err-files.field-0.0 in
    let a = asked o request c.in_ok-request.ensures.other c.in_ok-request.ensures.within c.in_ok-request.ensures.range in
    let names : map (λ s. s.now) c.as_slice.result.now ≡ input_names o = ap (map (λ s. s.now)) c.as_slice.ensures.value in
    let named = subst (λ (ns : List (List ℕ)). IsInputRefusal holds unreadable known (whole_stretch ns) ns [] request.split e) names c.in_err-files.ensures.refused in
    let refused = subst (λ (s : Stretch). IsInputRefusal holds unreadable known s (input_names o) [] request.split e) (same_stretch o c.requires) named in
    rw p.1 (rw p.2 (run_input_stage holds unreadable known o [] [] [] request e c.in_ok-request.ensures.request a refl refused))

pub returns-clause-refused : goal.returns-clause-refused
returns-clause-refused g c =
    let request = c.in_ok-request.request in
    let files = c.in_ok-files.files in
    let names = c.as_slice.result.now in
    let (most, few, h) = c.in_ok-files.ensures.sifted in
    let many : length (map (λ s. s.now) names) * most ≡ length names * most = ap (λ (n : ℕ). n * most) (length-map names (λ s. s.now)) in
    let fits = kept_input (g.S.Store.holds c.args.store.now) request.job c.args.wanted request.split most (map (λ s. s.now) names) files h (omega (arith, few, many)) in
    absurd (no_fault (length files.excerpts.items) (total_size (contents files.excerpts.items)) c.in-Err.fault
    (λ e. c.of.ensures.too_many.0 (c.in-Err.is ∙ ap Err e)) (λ e. c.of.ensures.too_large.0 (c.in-Err.is ∙ ap Err e)) fits)
