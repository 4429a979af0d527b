use Rattle.std.proofs.Common.{◌≡◌, Bool, Bor, List, ℕ, [], false, ap, sym, subst, take, ◌∙◌}
use Rattle.std.proofs.lemmas.Bool.{false≢true}
use Rattle.mr_jobs.specs.JobSpec.{JobSpec, folds_words}
use Rattle.mr_jobs.specs.Emissions.{emissions}
use Rattle.mr_explain.specs.Explained.{is_wanted}
use Rattle.mr_explain.specs.Needles.{Lacks}
use Rattle.mr_explain.specs.declared.query.Wanted.{Wanted}
use Rattle.mr_explain.proofs.NeedleLemmas.{needle_fits, nothing_stands}
use Rattle.mr_explain.proofs.needle.needle_of.Goals as goal
use Rattle.mr_explain.proofs.needle.needle_of.Goals.{in-Key, in-Nothing}

pub returns : goal.returns
returns c line lacks file start =
    let job : JobSpec = c.args.job.now in
    let said : (literal : List ℕ) → c.match-wanted.literal.now ≡ literal → Lacks (folds_words job) literal line =
    λ literal e. subst (λ (l : List ℕ). Lacks (folds_words job) l line) e (subst (λ (fold : Bool). Lacks fold c.match-wanted.literal.now line) c.folds_keys.ensures lacks) in
    elim c.match-wanted.branch [
      | in-Key w ↦
          subst (λ (wanted : Wanted). is_wanted wanted (emissions job file start line) ≡ false) (sym w.in-Key.is)
          (needle_fits job w.in-Key.key.now w.min.result file start line (said (take w.min.result w.in-Key.key.now) (ap (λ (b : Bor (List ℕ)). b.now) w.literal-is)))
      | in-Nothing w ↦ absurd (false≢true (sym (said [] (ap (λ (b : Bor (List ℕ)). b.now) w.literal-is)) ∙ nothing_stands (folds_words job) line))
    ]
