-- Items that are met, one list of wanted items after another.
use Rattle.std.proofs.Common.{◌≡◌, ℕ, Bool, true, false, cond, List, [], ◌∷◌, ◌++◌, length, map, refl, ap, sym, ◌∙◌}
use Rattle.std.specs.Prelude.{Ok, Err}
use Rattle.mr_jobs.specs.JobSpec.{JobSpec, RequestSpec, flags_of, job_literal, job_number}
use Rattle.mr_certform.specs.declared.grammar_state.Item.{Item}
use Rattle.mr_certform.specs.declared.grammar_state.Item.TheVariants.{Magic, Job, Flags, LiteralLength, LiteralByte, Parts, SplitSize}
use Rattle.mr_verdict.specs.declared.answers.No.{No}
use Rattle.mr_verdict.specs.Verdict.{item_eq, job_wanted}
use Rattle.mr_verdict.specs.Steps.{met}

pub met_then : (at : ℕ) (f : No) (ws vs is js : List Item) → met at ws f is ≡ Ok js → met at (ws ++ vs) f is ≡ met at vs f js
met_then at f [] vs is js e = ap (met at vs f) (cc e)
met_then at f (w ∷ ws) vs [] js e = absurd (cc e)
met_then at f (w ∷ ws) vs (i ∷ is) js e = by (item_eq i w) e (met_then at f ws vs is js)
  where
    by : (b : Bool) → cond b (met at ws f is) (Err f) ≡ Ok js → (met at ws f is ≡ Ok js → met at (ws ++ vs) f is ≡ met at vs f js) → cond b (met at (ws ++ vs) f is) (Err f) ≡ met at vs f js
    by true d more = more d
    by false d more = absurd (cc d)

pub met_fails : (at : ℕ) (f : No) (ws vs is : List Item) (e : No) → met at ws f is ≡ Err e → met at (ws ++ vs) f is ≡ Err e
met_fails at f [] vs is e d = absurd (cc d)
met_fails at f (w ∷ ws) vs [] e d = d
met_fails at f (w ∷ ws) vs (i ∷ is) e d = by (item_eq i w) d (met_fails at f ws vs is e)
  where
    by : (b : Bool) → cond b (met at ws f is) (Err f) ≡ Err e → (met at ws f is ≡ Err e → met at (ws ++ vs) f is ≡ Err e) → cond b (met at (ws ++ vs) f is) (Err f) ≡ Err e
    by true h more = more h
    by false h more = h

-- one more item is met
pub met_more : (a at : ℕ) (f : No) (w : Item) (all ws is js : List Item) → all ≡ w ∷ ws → a ≡ at → met a (w ∷ []) f is ≡ Ok js → met at ws f js ≡ met at all f is
met_more a at f w all ws is js d same e =
    sym (ap (λ k. met at k f is) d ∙ (ap (λ n. met n (w ∷ ws) f is) (sym same) ∙ (met_then a f (w ∷ []) ws is js e ∙ ap (λ n. met n ws f js) same)))

-- one isn't
pub met_not : (a at : ℕ) (f : No) (w : Item) (all ws is : List Item) (e : No) → all ≡ w ∷ ws → a ≡ at → met a (w ∷ []) f is ≡ Err e → met at all f is ≡ Err e
met_not a at f w all ws is e d same h = ap (λ k. met at k f is) d ∙ (ap (λ n. met n (w ∷ ws) f is) (sym same) ∙ met_fails a f (w ∷ []) ws is e h)

-- ---- the items of a job

-- from the numbers that the code reads
pub job_is : (o : RequestSpec) (job : JobSpec) (lits : List ℕ) (number flags parts split : ℕ) → job ≡ o.job → lits ≡ job_literal job → number ≡ job_number job → flags ≡ flags_of o → parts ≡ o.parts → split ≡ o.split
    → job_wanted o ≡ (Magic ∷ Job number ∷ Flags flags ∷ LiteralLength (length lits) ∷ []) ++ (map LiteralByte lits ++ (Parts parts ∷ SplitSize split ∷ []))
job_is o job lits number flags parts split t l n g p s = rw (l, n, g, p, s, t) refl
