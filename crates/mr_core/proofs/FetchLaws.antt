-- Before its completion was accepted, each committed reduce attempt fetched from each split an output that had been
-- accepted for it before the fetch.
use Rattle.std.proofs.Common.{◌≡◌, ℕ, zero, suc, ◌<◌, Option, Some, None, List, [], ◌∷◌, ◌++◌, length, map, replicate, slice_get, refl, ap, sym, ◌∙◌, subst, inl, inr, arith, Bool, true, false, cond, is_some}
use Rattle.std.specs.List.{list_all}
use Rattle.std.proofs.lemmas.Bool.{false≢true, eqb-true}
use Rattle.std.proofs.lemmas.Option.{cond_some}
use Rattle.std.proofs.lemmas.List.{length-replicate}
use Rattle.mr_bytes.specs.Lists.{Has}
use Rattle.mr_core.specs.declared.event.Task.{Task}
use Rattle.mr_core.specs.declared.event.Event.{Event}
use Rattle.mr_core.specs.declared.event.Reply.{Reply}
use Rattle.mr_core.specs.declared.event.End.{End}
use Rattle.mr_core.specs.declared.event.Shape.{Shape}
use Rattle.mr_core.specs.declared.entries.Split.{Split}
use Rattle.mr_core.specs.Master.{State, Attempt, Outcome, Step, Run, reply_eq, fetched_from, fetch_by, on_live, live_attempt, next_by, opening, update_at, finish, issue, nothing_fetched, leave_out, note_failure, lose, damage, left_by, gone_with, held_by, without_output, is_numbered}
use Rattle.mr_core.specs.declared.event.Task.TheVariants.{Map as MapTask, Reduce as ReduceTask}
use Rattle.mr_core.specs.declared.event.Event.TheVariants.{Fetch, MapDone, ReduceDone}
use Rattle.mr_core.specs.declared.event.Reply.TheVariants.{Accepted, Region}
use Rattle.mr_core.specs.Laws.{IsOutputOf, IsReduceOf, IsPartOf, GoesOnWith, IsFetched, HasFetched}
use Rattle.mr_core.proofs.Places.{get-push_cases, get-update_from, get-map_from}
use Rattle.mr_core.proofs.Progress.{length-update}
use Rattle.mr_core.proofs.Steps.{jobs, job_of, live_is, job_at}
use Rattle.mr_core.proofs.Sets.{sets_and_parts}
use Rattle.mr_core.proofs.Traced.{attempt_of_job}
use Rattle.mr_core.proofs.Traced as traced
use Rattle.mr_core.proofs.StepCases.{Rule, step_holds}

kept_output : (b : Bool) (x : Option (ℕ × ℕ)) (o : ℕ × ℕ) → cond b None x ≡ Some o → x ≡ Some o
kept_output true x o e = absurd (cc e)
kept_output false x o e = e

none_fetched : (n s x : ℕ) → slice_get (replicate n (let none : Option ℕ = None in none)) s ≡ Some (Some x) → ⊥
none_fetched zero s x e = cc e
none_fetched (suc n) zero x e = let d : None ≡ Some x = cc e in cc d
none_fetched (suc n) (suc s) x e = none_fetched n s x e

full_at : (xs : List (Option ℕ)) (s : ℕ) → list_all is_some xs ≡ true → s < length xs → (x : ℕ) × (slice_get xs s ≡ Some (Some x))
full_at [] s e l = absurd (omega arith)
full_at (None ∷ xs) s e l = absurd (false≢true e)
full_at (Some x ∷ xs) zero e l = (x, refl)
full_at (Some x ∷ xs) (suc s) e l = full_at xs s e (omega arith)

none_yet : (n s : ℕ) (sp : Split) (o : ℕ × ℕ) → slice_get (replicate n (let none : Split = record { skips = []; fixed = false; output = None } in none)) s ≡ Some sp → sp.output ≡ Some o → ⊥
none_yet zero s sp o e d = cc e
none_yet (suc n) zero sp o e d = let same : (let none : Split = record { skips = []; fixed = false; output = None } in none) ≡ sp = cc e in let w : None ≡ Some o = ap (λ (x : Split). x.output) same ∙ d in cc w
none_yet (suc n) (suc s) sp o e d = none_yet n s sp o e d

-- each output of the new splits is one of the old, and what the new attempts have fetched the old ones had
abbrev Outs : List Split → List Split → Type 0
Outs old new = (s : ℕ) (sp : Split) (o : ℕ × ℕ) → slice_get new s ≡ Some sp → sp.output ≡ Some o → (was : Split) × (slice_get old s ≡ Some was) × (was.output ≡ Some o)

abbrev Atts : List Attempt → List Attempt → Type 0
Atts old new = (a : ℕ) (at : Attempt) → slice_get new a ≡ Some at → (was : Attempt) × (slice_get old a ≡ Some was) × (at.fetched ≡ was.fetched) × (at.task ≡ was.task)

outs_update : (f : Split → Split) → ((sp : Split) (o : ℕ × ℕ) → (f sp).output ≡ Some o → sp.output ≡ Some o) → (i : ℕ) (sps : List Split) → Outs sps (update_at f i sps)
outs_update f back i sps s sp o h g =
    let u = get-update_from f i s sps sp h in
    (u.0, u.1, elim u.2 [ inl e ↦ ap (λ (x : Split). x.output) (sym e) ∙ g | inr e ↦ back u.0 o (ap (λ (x : Split). x.output) (sym e.1) ∙ g) ])

outs_map : (f : Split → Split) → ((sp : Split) (o : ℕ × ℕ) → (f sp).output ≡ Some o → sp.output ≡ Some o) → (sps : List Split) → Outs sps (map f sps)
outs_map f back sps s sp o h g = let u = get-map_from f sps s sp h in (u.0, u.1, back u.0 o (ap (λ (x : Split). x.output) (sym u.2) ∙ g))

atts_finish : (a : ℕ) (ats : List Attempt) → Atts ats (update_at (λ t. record t { live = false }) a ats)
atts_finish a ats b at h =
    let u = get-update_from (λ (t : Attempt). record t { live = false }) a b ats at h in
    (u.0, u.1, elim u.2 [ inl e ↦ ap (λ (x : Attempt). x.fetched) e | inr e ↦ ap (λ (x : Attempt). x.fetched) e.1 ], elim u.2 [ inl e ↦ ap (λ (x : Attempt). x.task) e | inr e ↦ ap (λ (x : Attempt). x.task) e.1 ])

atts_lose : (w : ℕ) (ats : List Attempt) → Atts ats (map (left_by w) ats)
atts_lose w ats b at h = let u = get-map_from (left_by w) ats b at h in (u.0, u.1, ap (λ (x : Attempt). x.fetched) u.2, ap (λ (x : Attempt). x.task) u.2)

jobs_stay : (sh : Shape) (st : State) (h : List (Event × Reply)) (new : State) → Run sh st h new → (b : ℕ) (j : Task × List ℕ) → slice_get (jobs st) b ≡ Some j → slice_get (jobs new) b ≡ Some j
jobs_stay = traced.run_stays (λ s k. Unit {0}) (λ s r. Unit {0}) (λ p o. Unit {0}) (λ s. tt) (λ s r k x y. tt)

-- K: the outputs of a split; F: what an attempt fetched from a split
module _ (K : ℕ → ℕ → Type 0) (F : ℕ → ℕ → ℕ → Type 0) (sh : Shape) where
  record Fed (a : ℕ) (at : Attempt) : Type 0 where
    long : (p : ℕ) → at.task ≡ ReduceTask p → length at.fetched ≡ sh.maps
    each : (s x : ℕ) → slice_get at.fetched s ≡ Some (Some x) → F a s x

  record Known (st : State) : Type 0 where
    outputs : (s : ℕ) (sp : Split) (o : ℕ × ℕ) → slice_get st.splits s ≡ Some sp → sp.output ≡ Some o → K s (o.0)
    fed : (a : ℕ) (at : Attempt) → slice_get st.attempts a ≡ Some at → Fed a at

  abbrev HasAll : ℕ → Type 0
  HasAll a = (s : ℕ) → s < sh.maps → (x : ℕ) × F a s x

  module _ (st : State) where
    record After (e : Event) (r : Reply) (new : State) : Type 0 where
      known : Known st → ((b x s : ℕ) (k : List ℕ) → e ≡ MapDone b x → r ≡ Accepted → slice_get (jobs st) b ≡ Some (MapTask s, k) → K s x) → ((a s x : ℕ) → e ≡ Fetch a s → r ≡ Region x → F a s x) → Known new
      commits : Known st → (a o : ℕ) → e ≡ ReduceDone a o → r ≡ Accepted → HasAll a

    fed_from : (ats : List Attempt) → Atts st.attempts ats → Known st → (a : ℕ) (at : Attempt) → slice_get ats a ≡ Some at → Fed a at
    fed_from ats f known a at h = let w = f a at h in let old = known.fed a w.0 w.1 in record { long = λ p t. ap length w.2 ∙ old.long p (sym w.3 ∙ t); each = λ s x g. old.each s x (ap (λ xs. slice_get xs s) (sym w.2) ∙ g) }

    outputs_from : (sps : List Split) → Outs st.splits sps → Known st → (s : ℕ) (sp : Split) (o : ℕ × ℕ) → slice_get sps s ≡ Some sp → sp.output ≡ Some o → K s (o.0)
    outputs_from sps f known s sp o h g = let w = f s sp o h g in known.outputs s w.0 o w.1 w.2

    -- nothing is added
    plain : (e : Event) (r : Reply) (new : State) → Outs st.splits new.splits → Atts st.attempts new.attempts → ((a o : ℕ) → e ≡ ReduceDone a o → r ≡ Accepted → ⊥) → After e r new
    plain e r new outs atts none = record {
      known = λ known f g. record { outputs = outputs_from new.splits outs known; fed = fed_from new.attempts atts known };
      commits = λ known a o d acc. absurd (none a o d acc);
    }

    same_outs : Outs st.splits st.splits
    same_outs s sp o h g = (sp, h, g)

    long_nothing : (t : Task) (p : ℕ) → t ≡ ReduceTask p → length (nothing_fetched sh t) ≡ sh.maps
    long_nothing (MapTask s) p e = absurd (cc e)
    long_nothing (ReduceTask q) p e = length-replicate sh.maps _

    none_nothing : (t : Task) (s x : ℕ) → slice_get (nothing_fetched sh t) s ≡ Some (Some x) → ⊥
    none_nothing (MapTask q) s x e = cc e
    none_nothing (ReduceTask p) s x e = none_fetched sh.maps s x e

    issued_one : (e : Event) (r : Reply) (w : ℕ) (t : Task) (k : List ℕ) → ((a o : ℕ) → e ≡ ReduceDone a o → r ≡ Accepted → ⊥) → After e r (issue w t k sh st)
    issued_one e r w t k none = record {
      known = λ known f g. record {
        outputs = known.outputs;
        fed = λ a at h. elim (get-push_cases st.attempts _ at a h) [
          | inl old ↦ known.fed a at old
          | inr new ↦ (let list : nothing_fetched sh t ≡ at.fetched = ap (λ (x : Attempt). x.fetched) new in record { long = λ p e. ap length (sym list) ∙ long_nothing t p (ap (λ (x : Attempt). x.task) new ∙ e); each = λ s x e. absurd (none_nothing t s x (ap (λ xs. slice_get xs s) list ∙ e)) })
        ];
      };
      commits = λ known a o d acc. absurd (none a o d acc);
    }

    fetched_one : (a m o : ℕ) (at : Attempt) → Fed a at → F a m o → Fed a (record at { fetched = update_at (λ x. Some o) m at.fetched })
    fetched_one a m o at fed f = record {
      long = λ p t. length-update (λ x. Some o) m at.fetched ∙ fed.long p t;
      each = λ s x e.
          let u = get-update_from (λ x. Some o) m s at.fetched (Some x) e in
          elim u.2 [
            | inl is ↦ fed.each s x (u.1 ∙ ap Some (sym is))
            | inr is ↦ (let value : x ≡ o = cc is.1 in subst (λ i. F a i x) is.0 (subst (F a m) (sym value) f))
          ];
    }

    fed_rule : Rule sh st After
    fed_rule = record {
      stays = λ e r n. plain e r st same_outs (λ a at h. (at, h, refl, refl)) (λ a o d acc. n acc);
      finishes = λ e r a n. plain e r (finish a st) same_outs (atts_finish a st.attempts) (λ a o d acc. n acc);
      fetches = λ a m p at sp o l t s so. record {
        known = λ known f g. record {
          outputs = known.outputs;
          fed = λ b bt h.
              let u = get-update_from (λ (t : Attempt). record t { fetched = update_at (λ x. Some (o.0)) m t.fetched }) a b st.attempts bt h in
              elim u.2 [
                | inl is ↦ known.fed b bt (u.1 ∙ ap Some (sym is))
                | inr is ↦ subst (Fed b) (sym is.1) (fetched_one b m (o.0) u.0 (known.fed b u.0 u.1) (g b m (o.0) (ap (λ i. Fetch i m) is.0) refl))
              ];
        };
        commits = λ known b x d acc. absurd (cc d);
      };
      completes = λ a o s at l t k. record {
        known = λ known f g. record {
          outputs = λ i sp v h w.
              let u = get-update_from (λ (x : Split). record { skips = at.skips; fixed = true; output = Some (o, at.worker) }) s i st.splits sp h in
              elim u.2 [
                | inl is ↦ known.outputs i u.0 v u.1 (ap (λ (x : Split). x.output) (sym is) ∙ w)
                | inr is ↦ (
                    let now : Some (o, at.worker) ≡ Some v = ap (λ (x : Split). x.output) (sym is.1) ∙ w in
                    let pair : (o, at.worker) ≡ v = cc now in
                    subst (λ j. K j (v.0)) is.0 (subst (K s) (ap (λ (x : ℕ × ℕ). x.0) pair) (f a o s at.skips refl refl (job_at st a at l ∙ ap (λ u. Some (u, at.skips)) t)))
                    )
              ];
          fed = fed_from _ (atts_finish a st.attempts) known;
        };
        commits = λ known b x d acc. absurd (cc d);
      };
      notes = λ a s r. plain _ _ (note_failure s r (finish a st)) same_outs (atts_finish a st.attempts) (λ b x d acc. cc d);
      leaves = λ a s r at l t m less. plain _ _ (leave_out s r (note_failure s r (finish a st))) (outs_update _ (λ sp o e. e) s st.splits) (atts_finish a st.attempts) (λ b x d acc. cc d);
      commits = λ a o p at l t c full. record {
        known = λ known f g. record { outputs = known.outputs; fed = fed_from _ (atts_finish a st.attempts) known };
        commits = λ known b x d acc s less.
            let same : a ≡ b = cc d in
            let fed = known.fed a at (live_is st (slice_get st.attempts a) at l) in
            let y = full_at at.fetched s full (omega (arith, fed.long p t)) in
            (y.0, subst (λ i. F i s y.0) same (fed.each s y.0 y.1));
      };
      loses = λ w act. plain _ _ (lose w st) (outs_map (gone_with w) (λ sp o e. kept_output (held_by w sp.output) sp.output o e) st.splits) (atts_lose w st.attempts) (λ b x d acc. cc d);
      damages = λ a m p o at l t e. plain _ _ (damage m o (finish a st)) (outs_update (without_output o) (λ sp x e. kept_output (is_numbered o sp.output) sp.output x e) m st.splits) (atts_finish a st.attempts) (λ b x d acc. cc d);
      issues_map = λ w a s k act m listed. issued_one _ _ w (MapTask s) k (λ b x d acc. cc d);
      issues_reduce = λ w a p act m. issued_one _ _ w (ReduceTask p) [] (λ b x d acc. cc d);
    }

    step_after : (e : Event) (r : Reply) (new : State) → Step sh st e r new → After e r new
    step_after = step_holds sh st After fed_rule (λ e r mid over t. record { known = λ k f g. let w = t.known k f g in record { outputs = w.outputs; fed = w.fed }; commits = t.commits })

  run_known : (st : State) (h : List (Event × Reply)) (new : State) → Run sh st h new → Known st
      → ((b x s : ℕ) (k : List ℕ) → Has h (MapDone b x, Accepted) → slice_get (jobs new) b ≡ Some (MapTask s, k) → K s x)
      → ((a s x : ℕ) → Has h (Fetch a s, Region x) → F a s x) → Known new
  run_known st [] new run known f g = subst Known (sym run) known
  run_known st (e ∷ es) new run known f g =
      let one = step_after st (e.0) (e.1) run.0 run.1 in
      let now = one.known known (λ b x s k d acc j. f b x s k (inl (λ i. (d i, acc i))) (jobs_stay sh st (e ∷ es) new run b _ j)) (λ b s x d acc. g b s x (inl (λ i. (d i, acc i)))) in
      run_known run.0 es new run.2 now (λ b x s k d j. f b x s k (inr d) j) (λ b s x d. g b s x (inr d))

  known_at_opening : Known (opening sh)
  known_at_opening = record { outputs = λ s sp o h g. absurd (none_yet sh.maps s sp o h g); fed = λ a at e. absurd (cc e) }

-- ---- what a fetch answers

-- the split has this output
abbrev HasOutput : State → ℕ → ℕ → Type 0
HasOutput st s x = (sp : Split) × (o : ℕ × ℕ) × (slice_get st.splits s ≡ Some sp) × (sp.output ≡ Some o) × (o.0 ≡ x)

module _ (sh : Shape) (st : State) (a s x : ℕ) where
  abbrev Answers : Outcome → Type 0
  Answers out = reply_eq (Region x) out.reply ≡ true

  answers_from : (sp : Split) (o : Option (ℕ × ℕ)) → slice_get st.splits s ≡ Some sp → sp.output ≡ o → Answers (fetched_from st a s o) → HasOutput st s x
  answers_from sp None at out e = absurd (false≢true e)
  answers_from sp (Some o) at out e = (sp, o, at, out, sym (eqb-true x (o.0) e))

  answers_by : (t : Task) (sp : Option Split) → slice_get st.splits s ≡ sp → Answers (fetch_by st a s t sp) → HasOutput st s x
  answers_by (ReduceTask p) (Some sp) at e = answers_from sp sp.output at refl e
  answers_by (ReduceTask p) None at e = absurd (false≢true e)
  answers_by (MapTask m) sp at e = absurd (false≢true e)

  answers_live : (at : Option Attempt) → Answers (on_live st at (λ at. fetch_by st a s at.task (slice_get st.splits s))) → HasOutput st s x
  answers_live None e = absurd (false≢true e)
  answers_live (Some at) e = answers_by at.task (slice_get st.splits s) refl e

  -- a fetch answers what the split has
  answers_step : (new : State) (end : Option End) → next_by sh st (Fetch a s) (Region x) end ≡ Some new → HasOutput st s x
  answers_step new None e = answers_live (live_attempt st a) ((cond_some _ _ new e).0)
  answers_step new (Some end) e = absurd (false≢true ((cond_some _ st new e).0))

-- ---- runs

run_cut : (sh : Shape) (st : State) (before later : List (Event × Reply)) (new : State) → Run sh st (before ++ later) new → (mid : State) × Run sh st before mid × Run sh mid later new
run_cut sh st [] later new run = (st, refl, run)
run_cut sh st (e ∷ before) later new run = let rest = run_cut sh run.0 before later new run.2 in (rest.0, (run.0, run.1, rest.1), rest.2)

cut_at : (h : List (Event × Reply)) (e : Event × Reply) → Has h e → (before : List (Event × Reply)) × GoesOnWith before e h
cut_at [] e has = absurd has
cut_at (x ∷ h) e (inl is) = ([], (h, ap (λ y. y ∷ h) is))
cut_at (x ∷ h) e (inr has) = let rest = cut_at h e has in (x ∷ rest.0, (rest.1.0, ap (λ ys. x ∷ ys) rest.1.1))

-- what was issued in a run is still so in a later state
abbrev Stay : State → State → Type 0
Stay mid st = (b : ℕ) (j : Task × List ℕ) → slice_get (jobs mid) b ≡ Some j → slice_get (jobs st) b ≡ Some j

-- each output that a split has was accepted for it
output_accepted : (sh : Shape) (h : List (Event × Reply)) (mid st : State) → Run sh (opening sh) h mid → Stay mid st → (s x : ℕ) → HasOutput mid s x → IsOutputOf h st s x
output_accepted sh h mid st run stay s x has =
    let known = run_known (IsOutputOf h st) (λ a s x. Unit {0}) sh (opening sh) h mid run (known_at_opening (IsOutputOf h st) (λ a s x. Unit {0}) sh)
    (λ b y t k d j. let u = attempt_of_job st b t k (stay b _ j) in (b, d, u.0, u.1, u.2)) (λ a s x d. tt) in
    subst (IsOutputOf h st s) has.4 (known.outputs s has.0 has.1 has.2 has.3)

-- each output that was fetched from a split had been accepted for it
fetch_accepted : (sh : Shape) (h : List (Event × Reply)) (mid st : State) → Run sh (opening sh) h mid → Stay mid st → (a s x : ℕ) → Has h (Fetch a s, Region x) → IsFetched h st a s x
fetch_accepted sh h mid st run stay a s x has =
    let at = cut_at h (Fetch a s, Region x) has in
    let cut = run_cut sh (opening sh) at.0 ((Fetch a s, Region x) ∷ at.1.0) mid (subst (λ w. Run sh (opening sh) w mid) at.1.1 run) in
    let first = cut.0 in
    (at.0, at.1, output_accepted sh at.0 first st cut.1 (λ b j e. stay b j (jobs_stay sh first ((Fetch a s, Region x) ∷ at.1.0) mid cut.2 b j e)) s x (answers_step sh first a s x (cut.2.0) first.end (cut.2.1)))

pub committed_fetched : (sh : Shape) (h : List (Event × Reply)) (st : State) → Run sh (opening sh) h st → (before : List (Event × Reply)) (a o : ℕ) → GoesOnWith before (ReduceDone a o, Accepted) h → HasFetched before st sh.maps a
committed_fetched sh h st run before a o done =
    let cut = run_cut sh (opening sh) before ((ReduceDone a o, Accepted) ∷ done.0) st (subst (λ w. Run sh (opening sh) w st) done.1 run) in
    let mid = cut.0 in
    let stay : Stay mid st = jobs_stay sh mid ((ReduceDone a o, Accepted) ∷ done.0) st cut.2 in
    let K : ℕ → ℕ → Type 0 = λ s x. Unit {0} in
    let known = run_known K (IsFetched before st) sh (opening sh) before mid cut.1 (known_at_opening K (IsFetched before st) sh) (λ b x s k d j. tt) (fetch_accepted sh before mid st cut.1 stay) in
    (step_after K (IsFetched before st) sh mid (ReduceDone a o) Accepted (cut.2.0) (cut.2.1)).commits known a o refl refl

-- ---- outputs that stand in a state

pub output_was_accepted : (sh : Shape) (h : List (Event × Reply)) (st : State) → Run sh (opening sh) h st → (s : ℕ) (sp : Split) (x w : ℕ) → slice_get st.splits s ≡ Some sp → sp.output ≡ Some (x, w) → IsOutputOf h st s x
output_was_accepted sh h st run s sp x w at out = output_accepted sh h st st run (λ b j e. e) s x (sp, (x, w), at, out, refl)

reduce_of_job : (st : State) (a p : ℕ) (k : List ℕ) → slice_get (jobs st) a ≡ Some (ReduceTask p, k) → IsReduceOf st a p
reduce_of_job st a p k e =
    let u = get-map_from job_of st.attempts a (ReduceTask p, k) e in
    (u.0, u.1, ap (λ (x : Task × List ℕ). x.0) (sym u.2))

pub part_was_accepted : (sh : Shape) (h : List (Event × Reply)) (st : State) → Run sh (opening sh) h st → (p o : ℕ) → slice_get st.committed p ≡ Some (Some o) → IsPartOf h st p o
part_was_accepted sh h st run =
    (sets_and_parts (λ s r. Unit {0}) (IsPartOf h st) sh h st run (λ a r s k f d. tt) (λ a o p k f d. (a, f, reduce_of_job st a p k d))).1
