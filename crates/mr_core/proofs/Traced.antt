-- What a run's accepted failures and commits say of its sets and of its committed outputs.
use Rattle.std.proofs.Common.{◌≡◌, ℕ, zero, suc, Some, None, List, [], ◌∷◌, ◌++◌, map, replicate, slice_get, refl, ap, sym, ◌∙◌, subst, inl, inr, ◌⊎◌, Bool, true, false}
use Rattle.std.proofs.lemmas.List.{map_push}
use Rattle.std.proofs.lemmas.Option.{some_pair_parts}
use Rattle.mr_bytes.specs.Lists.{Has}
use Rattle.mr_core.specs.declared.event.Task.{Task}
use Rattle.mr_core.specs.declared.event.Event.{Event}
use Rattle.mr_core.specs.declared.event.Reply.{Reply}
use Rattle.mr_core.specs.declared.event.Shape.{Shape}
use Rattle.mr_core.specs.Master.{State, Attempt, Step, Run, opening, update_at, with_number, finish, issue, fetch, complete, leave_out, note_failure, commit, lose, damage, left_by, gone_with, without_output}
use Rattle.mr_core.specs.declared.event.Task.TheVariants.{Map as MapTask, Reduce as ReduceTask}
use Rattle.mr_core.specs.declared.event.Event.TheVariants.{MapFailed, ReduceDone}
use Rattle.mr_core.specs.declared.event.Reply.TheVariants.{Accepted}
use Rattle.mr_core.proofs.Places.{map-update_same, map-update, map-map_same, get-push_old, get-push_cases, get-update_from, get-map_from}
use Rattle.mr_core.proofs.Views.{Jobs, Sets}
use Rattle.mr_core.proofs.Steps.{job_of, set_of, jobs, sets, finished, job_at, set_now}
use Rattle.mr_core.proofs.StepCases.{Rule, step_holds}

-- G of the sets of a split, P of the records that failed, C of the outputs of a partition
module _ (G : ℕ → List ℕ → Type 0) (P C : ℕ → ℕ → Type 0) (empty : (s : ℕ) → G s []) (grows : (s r : ℕ) (k : List ℕ) → G s k → P s r → G s (with_number r k)) where
  pub record Traced (st : State) : Type 0 where
    pub of_sets : (s : ℕ) (k : List ℕ) (f : Bool) → slice_get (sets st) s ≡ Some (k, f) → G s k
    pub of_jobs : (a s : ℕ) (k : List ℕ) → slice_get (jobs st) a ≡ Some (MapTask s, k) → G s k
    pub of_parts : (p o : ℕ) → slice_get st.committed p ≡ Some (Some o) → C p o

  module _ (sh : Shape) (st : State) where
    -- a step keeps what was issued, and what holds where its own event is as it should be
    record Traces (e : Event) (r : Reply) (new : State) : Type 0 where
      stays : (a : ℕ) (j : Task × List ℕ) → slice_get (jobs st) a ≡ Some j → slice_get (jobs new) a ≡ Some j
      traced : Traced st → ((a x s : ℕ) (k : List ℕ) → e ≡ MapFailed a x → r ≡ Accepted → slice_get (jobs st) a ≡ Some (MapTask s, k) → P s x)
          → ((a o p : ℕ) (k : List ℕ) → e ≡ ReduceDone a o → r ≡ Accepted → slice_get (jobs st) a ≡ Some (ReduceTask p, k) → C p o) → Traced new

    job_stays : (new : State) → jobs new ≡ jobs st → (a : ℕ) (j : Task × List ℕ) → slice_get (jobs st) a ≡ Some j → slice_get (jobs new) a ≡ Some j
    job_stays new j a w h = ap (λ (js : Jobs). slice_get js a) j ∙ h

    same : (e : Event) (r : Reply) (new : State) → jobs new ≡ jobs st → sets new ≡ sets st → new.committed ≡ st.committed → Traces e r new
    same e r new j d c = record {
      stays = job_stays new j;
      traced = λ t f g. record {
        of_sets = λ s k b h. t.of_sets s k b (ap (λ (ss : Sets). slice_get ss s) (sym d) ∙ h);
        of_jobs = λ a s k h. t.of_jobs a s k (ap (λ (js : Jobs). slice_get js a) (sym j) ∙ h);
        of_parts = λ p o h. t.of_parts p o (ap (λ cs. slice_get cs p) (sym c) ∙ h);
      };
    }

    -- one split's set is another
    other_set : (e : Event) (r : Reply) (new : State) (s : ℕ) (f : List ℕ × Bool → List ℕ × Bool) → jobs new ≡ jobs st → sets new ≡ update_at f s (sets st) → new.committed ≡ st.committed
        → (Traced st → ((a x s : ℕ) (k : List ℕ) → e ≡ MapFailed a x → r ≡ Accepted → slice_get (jobs st) a ≡ Some (MapTask s, k) → P s x) → (k : List ℕ) (b : Bool) → slice_get (sets st) s ≡ Some (k, b) → G s ((f (k, b)).0)) → Traces e r new
    other_set e r new s f j d c own = record {
      stays = job_stays new j;
      traced = λ t fails g. record {
        of_sets = λ i k b h.
            let u = get-update_from f s i (sets st) (k, b) (ap (λ (ss : Sets). slice_get ss i) (sym d) ∙ h) in
            elim u.2 [
              | inl is ↦ t.of_sets i k b (u.1 ∙ ap Some (sym is))
              | inr is ↦ subst (λ w. G w k) is.0 (subst (G s) (sym (ap (λ (w : List ℕ × Bool). w.0) is.1)) (own t fails (u.0.0) (u.0.1) (ap (slice_get (sets st)) is.0 ∙ u.1)))
            ];
        of_jobs = λ a i k h. t.of_jobs a i k (ap (λ (js : Jobs). slice_get js a) (sym j) ∙ h);
        of_parts = λ p o h. t.of_parts p o (ap (λ cs. slice_get cs p) (sym c) ∙ h);
      };
    }

    issued_one : (e : Event) (r : Reply) (w : ℕ) (task : Task) (k : List ℕ) → ((s : ℕ) → task ≡ MapTask s → (b : Bool) × (slice_get (sets st) s ≡ Some (k, b))) → Traces e r (issue w task k sh st)
    issued_one e r w task k as_set =
        let pushed : jobs (issue w task k sh st) ≡ jobs st ++ (task, k) ∷ [] = map_push job_of st.attempts _ in record {
          stays = λ a j h. ap (λ (js : Jobs). slice_get js a) pushed ∙ get-push_old (jobs st) (task, k) j a h;
          traced = λ t f g. record {
            of_sets = t.of_sets;
            of_jobs = λ a s l h. elim (get-push_cases (jobs st) (task, k) (MapTask s, l) a (ap (λ (js : Jobs). slice_get js a) (sym pushed) ∙ h)) [
              | inl old ↦ t.of_jobs a s l old
              | inr new ↦ (let at = as_set s (ap (λ (x : Task × List ℕ). x.0) new) in subst (G s) (ap (λ (x : Task × List ℕ). x.1) new) (t.of_sets s k at.0 at.1))
            ];
            of_parts = t.of_parts;
          };
        }

    traces_rule : Rule sh st Traces
    traces_rule = record {
      stays = λ e r n. same e r st refl refl refl;
      finishes = λ e r a n. same e r (finish a st) (finished a st) refl refl;
      fetches = λ a m p at sp o l t s so. same _ _ (fetch a m (o.0) st) (map-update_same job_of (λ t. record t { fetched = update_at (λ x. Some (o.0)) m t.fetched }) (λ t. refl) a st.attempts) refl refl;
      completes = λ a o s at l t k. other_set _ _ (complete s at.skips o at.worker (finish a st)) s (λ p. (at.skips, true)) (finished a st) (map-update set_of (λ p. record { skips = at.skips; fixed = true; output = Some (o, at.worker) }) (λ p. (at.skips, true)) (λ p. refl) s st.splits) refl
          (λ traced f j b h. traced.of_jobs a s at.skips (job_at st a at l ∙ ap (λ u. Some (u, at.skips)) t));
      notes = λ a s r. same _ _ (note_failure s r (finish a st)) (finished a st) refl refl;
      leaves = λ a s r at l t m less. other_set (MapFailed a r) Accepted (leave_out s r (note_failure s r (finish a st))) s (λ p. (with_number r (p.0), p.1)) (finished a st) (map-update set_of (λ p. record p { skips = with_number r p.skips }) (λ p. (with_number r (p.0), p.1)) (λ p. refl) s st.splits) refl
          (λ traced f j b h. grows s r j (traced.of_sets s j b h) (f a r s at.skips refl refl (job_at st a at l ∙ ap (λ u. Some (u, at.skips)) t)));
      commits = λ a o p at l t c full. record {
        stays = job_stays (commit p o (finish a st)) (finished a st);
        traced = λ traced f g. record {
          of_sets = traced.of_sets;
          of_jobs = λ b s k h. traced.of_jobs b s k (ap (λ (js : Jobs). slice_get js b) (sym (finished a st)) ∙ h);
          of_parts = λ q x h.
              let u = get-update_from (λ y. Some o) p q st.committed (Some x) h in
              elim u.2 [
                | inl is ↦ traced.of_parts q x (u.1 ∙ ap Some (sym is))
                | inr is ↦ (let now : o ≡ x = cc is.1 in subst (λ w. C w x) is.0 (subst (C p) now (g a o p at.skips refl refl (job_at st a at l ∙ ap (λ u. Some (u, at.skips)) t))))
              ];
        };
      };
      loses = λ w act. same _ _ (lose w st) (map-map_same job_of (left_by w) (λ a. refl) st.attempts) (map-map_same set_of (gone_with w) (λ sp. refl) st.splits) refl;
      damages = λ a m p o at l t e. same _ _ (damage m o (finish a st)) (finished a st) (map-update_same set_of (without_output o) (λ sp. refl) m st.splits) refl;
      issues_map = λ w a s k act m listed. issued_one _ _ w (MapTask s) k (λ t d. let same : s ≡ t = cc d in subst (λ v. (f : Bool) × (slice_get (sets st) v ≡ Some (k, f))) same (set_now st s k (slice_get st.splits s) refl listed));
      issues_reduce = λ w a p act m. issued_one _ _ w (ReduceTask p) [] (λ t d. absurd (cc d));
    }

    step_traces : (e : Event) (r : Reply) (new : State) → Step sh st e r new → Traces e r new
    step_traces = step_holds sh st Traces traces_rule (λ e r mid over t. record { stays = t.stays; traced = λ a f g. let w = t.traced a f g in record { of_sets = w.of_sets; of_jobs = w.of_jobs; of_parts = w.of_parts } })

  pub run_stays : (sh : Shape) (st : State) (h : List (Event × Reply)) (new : State) → Run sh st h new → (a : ℕ) (j : Task × List ℕ) → slice_get (jobs st) a ≡ Some j → slice_get (jobs new) a ≡ Some j
  run_stays sh st [] new run a j e = ap (λ (w : State). slice_get (jobs w) a) run ∙ e
  run_stays sh st (x ∷ h) new run a j e = run_stays sh run.0 h new run.2 a j ((step_traces sh st (x.0) (x.1) run.0 run.1).stays a j e)

  pub run_traced : (sh : Shape) (st : State) (h : List (Event × Reply)) (new : State) → Run sh st h new → Traced st
      → ((a r s : ℕ) (k : List ℕ) → Has h (MapFailed a r, Accepted) → slice_get (jobs new) a ≡ Some (MapTask s, k) → P s r)
      → ((a o p : ℕ) (k : List ℕ) → Has h (ReduceDone a o, Accepted) → slice_get (jobs new) a ≡ Some (ReduceTask p, k) → C p o) → Traced new
  run_traced sh st [] new run t f g = subst Traced (sym run) t
  run_traced sh st (x ∷ h) new run t f g =
      let one = step_traces sh st (x.0) (x.1) run.0 run.1 in
      let later : (a : ℕ) (j : Task × List ℕ) → slice_get (jobs st) a ≡ Some j → slice_get (jobs new) a ≡ Some j = λ a j e. run_stays sh run.0 h new run.2 a j (one.stays a j e) in
      run_traced sh run.0 h new run.2
      (one.traced t (λ a r s k d acc e. f a r s k (inl (λ i. (d i, acc i))) (later a _ e)) (λ a o p k d acc e. g a o p k (inl (λ i. (d i, acc i))) (later a _ e)))
      (λ a r s k e d. f a r s k (inr e) d) (λ a o p k e d. g a o p k (inr e) d)

  sets_opening : (n s : ℕ) (k : List ℕ) (b : Bool) → slice_get (map set_of (replicate n (record { skips = []; fixed = false; output = None }))) s ≡ Some (k, b) → G s k
  sets_opening n s k b e = subst (G s) (go n s e) (empty s)
    where
      go : (n s : ℕ) → slice_get (map set_of (replicate n (record { skips = []; fixed = false; output = None }))) s ≡ Some (k, b) → [] ≡ k
      go zero s e = absurd (cc e)
      go (suc n) zero e = (some_pair_parts [] k false b e).0
      go (suc n) (suc s) e = go n s e

  none_committed : (n p o : ℕ) → slice_get (replicate n (let none : Rattle.std.proofs.Common.Option ℕ = None in none)) p ≡ Some (Some o) → ⊥
  none_committed zero p o e = cc e
  none_committed (suc n) zero o e = let d : None ≡ Some o = cc e in cc d
  none_committed (suc n) (suc p) o e = none_committed n p o e

  pub traced_at_opening : (sh : Shape) → Traced (opening sh)
  traced_at_opening sh = record { of_sets = λ s k b e. sets_opening sh.maps s k b e; of_jobs = λ a s k e. absurd (cc e); of_parts = λ p o e. absurd (none_committed sh.parts p o e) }

-- the attempt that was issued so
pub attempt_of_job : (st : State) (a s : ℕ) (k : List ℕ) → slice_get (jobs st) a ≡ Some (MapTask s, k) → (at : Attempt) × (slice_get st.attempts a ≡ Some at) × (at.task ≡ MapTask s) × (at.skips ≡ k)
attempt_of_job st a s k e =
    let u = get-map_from job_of st.attempts a (MapTask s, k) e in
    (u.0, u.1, ap (λ (x : Task × List ℕ). x.0) (sym u.2), ap (λ (x : Task × List ℕ). x.1) (sym u.2))
