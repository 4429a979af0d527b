-- What an ending tells of the end.
use Rattle.std.proofs.Common.{◌≡◌, ℕ, Option, Some, None, List, Bool, true, false, cond, refl, sym, ◌∙◌}
use Rattle.std.specs.Prelude.{IsTrue}
use Rattle.std.proofs.lemmas.Bool.{false≢true}
use Rattle.mr_script.specs.declared.script.Directive.{Directive}
use Rattle.mr_core.specs.declared.event.End.{End}
use Rattle.mr_core.specs.declared.event.End.TheVariants.{Done as Finished, Dismissed, Failed as EndedBy}
use Rattle.mr_core.specs.declared.event.JobFault.{JobFault}
use Rattle.mr_pool.specs.Accounts.{accounts}
use Rattle.mr_pool.specs.Endings.{ending_of}
use Rattle.mr_pool.specs.declared.running.Ending.TheVariants.{Done, Failed, Astray}

module _ (script : List Directive) (damage steady : Bool) (workers : ℕ) where
  pub done_is : (end : Option End) → ending_of end script damage steady workers ≡ Done → end ≡ Some Finished
  done_is (Some Finished) e = refl
  done_is (Some (EndedBy fault)) e = absurd (by (accounts script damage steady workers fault) e)
    where
      by : (b : Bool) → cond b (Failed fault) Astray ≡ Done → ⊥
      by true e = cc e
      by false e = cc e
  done_is (Some Dismissed) e = absurd (cc e)
  done_is None e = absurd (cc e)

  pub failed_is : (end : Option End) (fault : JobFault) → ending_of end script damage steady workers ≡ Failed fault → (end ≡ Some (EndedBy fault)) × IsTrue (accounts script damage steady workers fault)
  failed_is (Some Finished) fault e = absurd (cc e)
  failed_is (Some (EndedBy other)) fault e = by (accounts script damage steady workers other) refl e
    where
      by : (b : Bool) → accounts script damage steady workers other ≡ b → cond b (Failed other) Astray ≡ Failed fault → (Some (EndedBy other) ≡ Some (EndedBy fault)) × IsTrue (accounts script damage steady workers fault)
      by true is e = let same : other ≡ fault = cc e in (cc same, rw (sym same) is)
      by false is e = absurd (cc e)
  failed_is (Some Dismissed) fault e = absurd (cc e)
  failed_is None fault e = absurd (cc e)

  pub astray_is : (end : Option End) → ending_of end script damage steady workers ≡ Astray
      → (end ≡ Some Finished → ⊥) × ((fault : JobFault) → end ≡ Some (EndedBy fault) → IsTrue (accounts script damage steady workers fault) → ⊥)
  astray_is (Some Finished) e = absurd (cc e)
  astray_is (Some (EndedBy other)) e = by (accounts script damage steady workers other) refl e
    where
      by : (b : Bool) → accounts script damage steady workers other ≡ b → cond b (Failed other) Astray ≡ Astray
          → (Some (EndedBy other) ≡ Some Finished → ⊥) × ((fault : JobFault) → Some (EndedBy other) ≡ Some (EndedBy fault) → IsTrue (accounts script damage steady workers fault) → ⊥)
      by true is e = absurd (cc e)
      by false is e = (λ d. cc d, λ fault d t. let same : other ≡ fault = cc d in false≢true (sym is ∙ rw same t))
  astray_is (Some Dismissed) e = (λ d. cc d, λ fault d t. cc d)
  astray_is None e = (λ d. cc d, λ fault d t. cc d)
