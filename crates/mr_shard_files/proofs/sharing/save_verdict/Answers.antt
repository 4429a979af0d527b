use Rattle.std.proofs.Common.{◌∙◌, List, OnOk, ℕ, subst}
use Rattle.mr_files.specs.Holding.{Begins}
use Rattle.mr_files.specs.Names.{name_of_verdict}
use Rattle.mr_shard_files.proofs.sharing.save_verdict.Goals as goal

pub returns-clause-whole : goal.returns-clause-whole
returns-clause-whole g c =
    subst (λ (t : List ℕ). OnOk c.put_verdict.result (g.S.Store.holds c.put_verdict.new.store (name_of_verdict c.args.dir.now) t)) (c.as_slice.ensures.value ∙ c.in_ok-text.ensures) c.put_verdict.ensures.whole

pub returns-clause-begins : goal.returns-clause-begins
returns-clause-begins g c =
    subst (λ (t : List ℕ). Begins (g.S.Store.holds c.args.store.now) (g.S.Store.holds c.put_verdict.new.store) (name_of_verdict c.args.dir.now) t) (c.as_slice.ensures.value ∙ c.in_ok-text.ensures) c.put_verdict.ensures.begins
