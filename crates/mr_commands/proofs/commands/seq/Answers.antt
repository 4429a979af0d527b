use Rattle.std.proofs.Common.{ap, subst, sym, ◌∙◌, map}
use Rattle.std.specs.Prelude.{option_map, string_bytes}
use Rattle.std.proofs.lemmas.Result.{err_from_is_err_and}
use Rattle.mr_certform.specs.Pieces.{versioned_bytes}
use Rattle.mr_files.specs.Identities.{AreApart}
use Rattle.mr_commands.specs.Named.{named}
use Rattle.mr_commands.specs.OldVerdicts.{IsOldVerdict}
use Rattle.mr_commands.proofs.OldVerdictLemmas.{stood_there}
use Rattle.mr_commands.proofs.Refused.{answers_seq, changed_own, spelled_so, stopped_stage}
use Rattle.mr_commands.proofs.commands.seq.Goals as goal

pub returns-in_err-write_over-clause-refused : goal.returns-in_err-write_over-clause-refused
returns-in_err-write_over-clause-refused g c =
    let p = err_from_is_err_and c.from_residual-in_err-write_over.result c.from_residual-in_err-write_over.ensures.1 in
    let holds = g.S.Store.holds in
    let o = c.args.asked.now in
    let unreadable = g.S.Store.unreadable c.args.store.now in
    let known = g.S.Store.known_as c.args.store.now in
    let s = c.spelled_in-spelled.result in
    let work = c.in_ok-work.ensures.work (versioned_bytes s)
    (spelled_so o.version c.in_ok-work.work.certificate s c.spelled_in-spelled.ensures c.text_law.ensures) in
    let verdict = option_map (λ s. s.now) c.as_deref.result in
    let there = subst (IsOldVerdict (holds c.args.store.now) unreadable known o.options.out.now) (sym c.as_deref.ensures.value) c.in_ok-verdict.ensures.found in
    rw p.1 (stopped_stage (holds c.args.store.now) (holds c.write_over.new.store) unreadable (g.S.Store.unwritable c.args.store.now) known verdict o c.in_ok-work.work.outputs.items c.as_slice-outputs.result.now (versioned_bytes s) (string_bytes c.in_ok-work.work.line) c.in_err-write_over.field-0.0 p.0 work c.as_slice-outputs.ensures.value there c.in_err-write_over.ensures.refused p.2)

pub returns-in_err-write_over-clause-others : goal.returns-in_err-write_over-clause-others
returns-in_err-write_over-clause-others g c =
    let holds = g.S.Store.holds in
    let o = c.args.asked.now in
    let unreadable = g.S.Store.unreadable c.args.store.now in
    let known = g.S.Store.known_as c.args.store.now in
    let s = c.spelled_in-spelled.result in
    let work = c.in_ok-work.ensures.work (versioned_bytes s)
    (spelled_so o.version c.in_ok-work.work.certificate s c.spelled_in-spelled.ensures c.text_law.ensures) in
    let verdict = option_map (λ s. s.now) c.as_deref.result in
    let there = subst (IsOldVerdict (holds c.args.store.now) unreadable known o.options.out.now) (sym c.as_deref.ensures.value) c.in_ok-verdict.ensures.found in
    changed_own (holds c.args.store.now) (holds c.write_over.new.store) unreadable (g.S.Store.unwritable c.args.store.now) known verdict o c.in_ok-work.work.outputs.items c.as_slice-outputs.result.now
    (versioned_bytes s) (string_bytes c.in_ok-work.work.line) work c.as_slice-outputs.ensures.value (stood_there (holds c.args.store.now) unreadable known o.options.out.now verdict there) c.in_err-write_over.ensures.others

pub returns-clause-done : goal.returns-clause-done
returns-clause-done g c =
    let holds = g.S.Store.holds in
    let o = c.args.asked.now in
    let unreadable = g.S.Store.unreadable c.args.store.now in
    let known = g.S.Store.known_as c.args.store.now in
    let s = c.spelled_in-spelled.result in
    let work = c.in_ok-work.ensures.work (versioned_bytes s)
    (spelled_so o.version c.in_ok-work.work.certificate s c.spelled_in-spelled.ensures c.text_law.ensures) in
    let verdict = option_map (λ s. s.now) c.as_deref.result in
    let there = subst (IsOldVerdict (holds c.args.store.now) unreadable known o.options.out.now) (sym c.as_deref.ensures.value) c.in_ok-verdict.ensures.found in
    let inputs = ap (map string_bytes) c.as_slice.ensures.value ∙ c.in_ok-names.ensures in
    let unread = subst (λ v. AreApart known v (named verdict)) inputs
    (subst (λ v. AreApart known (map string_bytes c.as_slice.result.now) (named v)) (sym c.as_deref.ensures.value) c.in_ok-verdict.ensures.apart) in
    answers_seq (holds c.args.store.now) (holds c.write_over.new.store) unreadable (g.S.Store.unwritable c.args.store.now) known verdict o c.in_ok-work.work.outputs.items c.as_slice-outputs.result.now
    (versioned_bytes s) (string_bytes c.in_ok-work.work.line) work c.as_slice-outputs.ensures.value there unread c.in_ok-write_over.ensures.verdict
    c.in_ok-write_over.ensures.outputs c.in_ok-write_over.ensures.certificate

pub returns-clause-others : goal.returns-clause-others
returns-clause-others g c =
    let holds = g.S.Store.holds in
    let o = c.args.asked.now in
    let unreadable = g.S.Store.unreadable c.args.store.now in
    let known = g.S.Store.known_as c.args.store.now in
    let s = c.spelled_in-spelled.result in
    let work = c.in_ok-work.ensures.work (versioned_bytes s)
    (spelled_so o.version c.in_ok-work.work.certificate s c.spelled_in-spelled.ensures c.text_law.ensures) in
    let verdict = option_map (λ s. s.now) c.as_deref.result in
    let there = subst (IsOldVerdict (holds c.args.store.now) unreadable known o.options.out.now) (sym c.as_deref.ensures.value) c.in_ok-verdict.ensures.found in
    changed_own (holds c.args.store.now) (holds c.write_over.new.store) unreadable (g.S.Store.unwritable c.args.store.now) known verdict o c.in_ok-work.work.outputs.items c.as_slice-outputs.result.now
    (versioned_bytes s) (string_bytes c.in_ok-work.work.line) work c.as_slice-outputs.ensures.value (stood_there (holds c.args.store.now) unreadable known o.options.out.now verdict there) c.in_ok-write_over.ensures.others
