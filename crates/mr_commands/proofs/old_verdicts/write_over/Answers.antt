use Rattle.std.proofs.Common.{◌++◌, ◌∷◌, [], length}
use Rattle.std.specs.Prelude.{option_map}
use Rattle.std.proofs.lemmas.Result.{IfErr-weaker}
use Rattle.mr_input.specs.Files.{contents}
use Rattle.mr_files.specs.Names.{result_names}
use Rattle.mr_files.specs.Refusals.{IsWriteRefusal}
use Rattle.mr_files.proofs.Lists.{ok_anyhow}
use Rattle.mr_commands.specs.Named.{named}
use Rattle.mr_commands.specs.OldVerdicts.{IsEmptied, no_text}
use Rattle.mr_commands.proofs.OldVerdictLemmas.{kept_empty, result_refused}
use Rattle.mr_commands.proofs.old_verdicts.write_over.Goals as goal

pub returns-clause-verdict : goal.returns-clause-verdict
returns-clause-verdict g c =
    let holds = g.S.Store.holds in
    let verdict = option_map (λ s. s.now) c.args.verdict in
    ok_anyhow c.write_files.result (IsEmptied (holds c.write_files.new.store) verdict)
    (kept_empty (holds c.empty_verdict.new.store) (holds c.write_files.new.store) verdict c.args.dir.now (length c.args.outputs.now)
    c.requires.verdict c.write_files.ensures.others c.in_ok-empty_verdict.ensures.emptied)

pub returns-clause-refused : goal.returns-clause-refused
returns-clause-refused g c =
    let holds = g.S.Store.holds in
    let unwritable = g.S.Store.unwritable in
    let verdict = option_map (λ s. s.now) c.args.verdict in
    let n = length c.args.outputs.now in
    let names = result_names c.args.dir.now n in
    let texts = contents c.args.outputs.now ++ g.C.Encode.text c.args.certificate.now ∷ [] in
    IfErr-weaker c.write_files.result (λ e. IsWriteRefusal (holds c.empty_verdict.new.store) (holds c.write_files.new.store) (unwritable c.empty_verdict.new.store) names texts e)
    (λ e. IsWriteRefusal (holds c.args.store.now) (holds c.write_files.new.store) (unwritable c.args.store.now) (named verdict ++ names) (no_text verdict ++ texts) e)
    (λ e r. result_refused (holds c.args.store.now) (holds c.empty_verdict.new.store) (holds c.write_files.new.store) verdict c.args.dir.now n (unwritable c.args.store.now) (unwritable c.empty_verdict.new.store) texts e
    c.requires.verdict c.in_ok-empty_verdict.ensures.emptied c.empty_verdict.ensures.others c.empty_verdict.ensures.still r)
    c.write_files.ensures.refused
