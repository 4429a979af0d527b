use Rattle.std.proofs.Common.{◌≡◌, ◌≢◌, ◌⊎◌, false, List, ℕ}
use Rattle.std.proofs.lemmas.Result.{IfOk-weaker}
use Rattle.mr_files.specs.declared.ranges.RangeFault.TheVariants.{File}
use Rattle.mr_files.specs.declared.store.FileFault.TheVariants.{OutOfMemory}
use Rattle.mr_commands.specs.OldVerdicts.{BeginsVerdict}
use Rattle.mr_commands.proofs.OldVerdictLemmas.{none_there}
use Rattle.mr_commands.proofs.old_verdicts.is_verdict.Goals as goal

pub returns-in-Err-clause-no : goal.returns-in-Err-clause-no
returns-in-Err-clause-no g c =
    let holds = g.S.Store.holds c.args.store.now in
    let unreadable = g.S.Store.unreadable c.args.store.now in
    let name = c.args.name.now in
    IfOk-weaker c.no_unless_memory.result (λ b. (b ≡ false) × (c.in-Err.fault ≢ File OutOfMemory))
    (λ b. b ≡ false → unreadable name ⊎ ((text : List ℕ) × holds name text × ¬ BeginsVerdict text))
    (λ b told no. none_there holds unreadable name c.in-Err.fault told.1 c.in-Err.ensures.refused) c.no_unless_memory.ensures
