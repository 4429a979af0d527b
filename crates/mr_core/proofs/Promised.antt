-- The promises hold of every run, and so of each that a call goes on with.
use Rattle.std.proofs.Common.{◌≡◌, ℕ, zero, suc, ◌≤◌, Some, None, List, [], ◌∷◌, ◌++◌, slice_get, sym, ◌∙◌, subst, arith, true, false}
use Rattle.std.specs.List.{AllByRecursion, list_any}
use Rattle.std.proofs.lemmas.Option.{some_pair_parts}
use Rattle.std.specs.Prelude.{Result, Ok, Err, IfOk}
use Rattle.mr_core.specs.declared.event.Task.{Task}
use Rattle.mr_core.specs.declared.event.Event.{Event}
use Rattle.mr_core.specs.declared.event.Reply.{Reply}
use Rattle.mr_core.specs.declared.event.Shape.{Shape}
use Rattle.mr_core.specs.Master.{State, Attempt, Run, opening, issued, left_out, is_active, may_give, tasks}
use Rattle.mr_core.specs.Laws.{IsMapOf, IsAccepted}
use Rattle.mr_core.specs.Promises.{Promises}
use Rattle.mr_core.specs.Core.{CoreView, InLimits, IsStep, GoesOn}
use Rattle.mr_core.proofs.Steps.{run_goes, run_accepts, kept_at_opening, fixed_to, issued-is, left_out-is}
use Rattle.mr_core.proofs.Progress.{run_going, going_at_opening, may_be_given}
use Rattle.mr_core.proofs.FetchLaws.{committed_fetched}
use Rattle.mr_core.proofs.FixedSets.{fixed_stays}
use Rattle.mr_core.proofs.RunLaws.{run_push}

at_place : (P : Attempt → Type 0) (xs : List Attempt) (i : ℕ) (x : Attempt) → AllByRecursion P xs → slice_get xs i ≡ Some x → P x
at_place P [] i x all e = absurd (cc e)
at_place P (y ∷ xs) zero x all e = let same : y ≡ x = cc e in subst P same all.0
at_place P (y ∷ xs) (suc i) x all e = at_place P xs i x all.1 e

module _ (sh : Shape) (h : List (Event × Reply)) (st : State) (run : Run sh (opening sh) h st) where
  pub one_set : (a b s : ℕ) (k l : List ℕ) → IsAccepted h a → IsAccepted h b → IsMapOf st a s k → IsMapOf st b s l → k ≡ l
  one_set a b s k l aa bb ma mb =
      let one = fixed_to st a s k (run_accepts sh (opening sh) h st a aa.0 (kept_at_opening sh) run aa.1) ma in
      let other = fixed_to st b s l (run_accepts sh (opening sh) h st b bb.0 (kept_at_opening sh) run bb.1) mb in
      (some_pair_parts k l true true (sym one ∙ other)).0

  pub skips_few : left_out st ≤ sh.limits.skips
  skips_few = omega (arith, left_out-is st, (run_goes sh (opening sh) h st (kept_at_opening sh) run).kept.room)

  pub attempts_few : (t : Task) → issued st t ≤ sh.limits.attempts
  attempts_few t = omega (arith, issued-is st t, (run_goes sh (opening sh) h st (kept_at_opening sh) run).kept.few t)

  module _ (parts : 1 ≤ sh.parts) (attempts : 1 ≤ sh.limits.attempts) where
    pub stays_committed : (later : List (Event × Reply)) (new : State) → Run sh st later new → (p o : ℕ) → slice_get st.committed p ≡ Some (Some o) → slice_get new.committed p ≡ Some (Some o)
    stays_committed later new rest = (run_going sh st later new ((run_going sh (opening sh) h st (going_at_opening sh parts attempts) run).0) rest).1

    pub live_active : (a : ℕ) (at : Attempt) → slice_get st.attempts a ≡ Some at → at.live ≡ true → slice_get st.lost at.worker ≡ Some false
    live_active a at e = at_place (λ x. x.live ≡ true → slice_get st.lost x.worker ≡ Some false) st.attempts a at ((run_going sh (opening sh) h st (going_at_opening sh parts attempts) run).0.sound.of_active) e

    pub idle_given : st.end ≡ None → list_any (λ (at : Attempt). at.live) st.attempts ≡ false → (w : ℕ) → is_active st w ≡ true → list_any (may_give sh st w) (tasks sh) ≡ true
    idle_given on idle w act =
        let going = (run_going sh (opening sh) h st (going_at_opening sh parts attempts) run).0 in
        may_be_given sh st going (going.goes_on on) w act idle

pub promised : (sh : Shape) → InLimits sh → (h : List (Event × Reply)) (st : State) → Run sh (opening sh) h st → Promises sh h st
promised sh limits h st run = record {
  one_set = one_set sh h st run;
  fetched = committed_fetched sh h st run;
  stays = λ before later mid is first rest. stays_committed sh before mid first limits.parts.0 limits.attempts.0 later st rest;
  fixed = λ before later mid is first rest. fixed_stays sh mid st later rest;
  skips = skips_few sh h st run;
  attempts = attempts_few sh h st run;
  live = live_active sh h st run limits.parts.0 limits.attempts.0;
  given = idle_given sh h st run limits.parts.0 limits.attempts.0;
}

-- a step goes on with each run
pub step_goes_on : (old : CoreView) (e : Event) (r : Reply) (new : CoreView) → InLimits old.shape → IsStep old e r new → GoesOn old e r new
step_goes_on old e r new limits step h run =
    let longer = run_push old.shape (opening old.shape) h old.state e r new.state run step.1 in
    subst (λ (sh : Shape). Run sh (opening sh) (h ++ (e, r) ∷ []) new.state × Promises sh (h ++ (e, r) ∷ []) new.state) (sym step.0) (longer, promised old.shape limits (h ++ (e, r) ∷ []) new.state longer)

pub ok_goes_on : {E : Type 0} (old : CoreView) (e : Event) (r : Result Reply E) (new : CoreView) → InLimits old.shape → IfOk r (λ x. IsStep old e x new) → IfOk r (λ x. GoesOn old e x new)
ok_goes_on old e (Ok x) new limits step = step_goes_on old e x new limits step
ok_goes_on old e (Err x) new limits step = tt
