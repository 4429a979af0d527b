use Rattle.std.proofs.Common.{◌∙◌, List, ℕ, subst}
use Rattle.mr_files.specs.Holding.{Begins, ChangesOnly}
use Rattle.mr_shard_files.proofs.sharing.put_verdict.Goals as goal

pub returns-clause-whole : goal.returns-clause-whole
returns-clause-whole g c =
    subst (λ (n : List ℕ). g.S.Store.holds c.write_file.new.store n c.args.text.now) (c.as_str.ensures.value ∙ c.in_ok-name.ensures) c.in_ok-write_file.ensures.whole

pub returns-clause-begins : goal.returns-clause-begins
returns-clause-begins g c =
    subst (λ (n : List ℕ). Begins (g.S.Store.holds c.args.store.now) (g.S.Store.holds c.write_file.new.store) n c.args.text.now) (c.as_str.ensures.value ∙ c.in_ok-name.ensures) c.write_file.ensures.begins

pub returns-clause-others : goal.returns-clause-others
returns-clause-others g c =
    subst (λ (n : List ℕ). ChangesOnly (g.S.Store.holds c.args.store.now) (g.S.Store.holds c.write_file.new.store) n) (c.as_str.ensures.value ∙ c.in_ok-name.ensures) c.write_file.ensures.others

pub returns-in_err-write_file-clause-begins : goal.returns-in_err-write_file-clause-begins
returns-in_err-write_file-clause-begins g c =
    subst (λ (n : List ℕ). Begins (g.S.Store.holds c.args.store.now) (g.S.Store.holds c.write_file.new.store) n c.args.text.now) (c.as_str.ensures.value ∙ c.in_ok-name.ensures) c.write_file.ensures.begins

pub returns-in_err-write_file-clause-others : goal.returns-in_err-write_file-clause-others
returns-in_err-write_file-clause-others g c =
    subst (λ (n : List ℕ). ChangesOnly (g.S.Store.holds c.args.store.now) (g.S.Store.holds c.write_file.new.store) n) (c.as_str.ensures.value ∙ c.in_ok-name.ensures) c.write_file.ensures.others
