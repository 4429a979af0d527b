-- One case analysis of a step, for every invariant: what holds of each changed state holds after any step.
use Rattle.std.proofs.Common.{◌≡◌, ℕ, ◌<◌, Option, Some, None, List, [], length, slice_get, refl, ap, sym, ◌∙◌, subst, inl, inr, ◌⊎◌, Bool, true, false, cond, not, ◌&&◌, is_some, nat_lt, ◌==◌}
use Rattle.std.specs.List.{list_all, list_any}
use Rattle.std.specs.Option.{option_map_or}
use Rattle.std.specs.Cmp.Lexicographic.{bytes_decides}
use Rattle.std.proofs.lemmas.Bool.{and_parts, ltb-true, not-true, eqb-true, false≢true}
use Rattle.std.proofs.lemmas.Option.{cond_some}
use Rattle.mr_core.specs.declared.event.Task.{Task}
use Rattle.mr_core.specs.declared.event.Event.{Event}
use Rattle.mr_core.specs.declared.event.Reply.{Reply}
use Rattle.mr_core.specs.declared.event.End.{End}
use Rattle.mr_core.specs.declared.event.Shape.{Shape}
use Rattle.mr_core.specs.declared.entries.Split.{Split}
use Rattle.mr_core.specs.Master.{State, Attempt, Outcome, Step, finish, issue, fetch, complete, leave_out, note_failure, commit, lose, damage, latest_in, damaged_from, damaged_by, settled, replies, live_attempt, fetched_from, fetch_by, takes, map_done_by, may_leave_out, failed_before, map_failed_by, reduce_done_by, on_live, outcome, given, asked, then_settled, next_going, next_by, reply_ended, reply_eq, end_eq, may_give, left_out, is_complete, is_active, same_list, tasks}
use Rattle.mr_core.specs.declared.event.Task.TheVariants.{Map as MapTask, Reduce as ReduceTask}
use Rattle.mr_core.specs.declared.event.JobFault.TheVariants.{TooManyAttempts, TooManySkips, NoWorkers}
use Rattle.mr_core.specs.declared.event.End.TheVariants.{Done, Dismissed, Failed}
use Rattle.mr_core.specs.declared.event.Event.TheVariants.{Ask, Fetch, MapDone, MapFailed, ReduceDone, Lose, Damaged}
use Rattle.mr_core.specs.declared.event.Reply.TheVariants.{Map, Reduce, Wait, Stop, Region, Gone, Accepted, Ignored}

end_eq-is : (e f : End) → end_eq e f ≡ true → e ≡ f
end_eq-is Done Done e = refl
end_eq-is Dismissed Dismissed e = refl
end_eq-is (Failed TooManyAttempts) (Failed TooManyAttempts) e = refl
end_eq-is (Failed TooManySkips) (Failed TooManySkips) e = refl
end_eq-is (Failed NoWorkers) (Failed NoWorkers) e = refl
end_eq-is _ _ e = absurd (false≢true e)

pub reply_eq-is : (r s : Reply) → reply_eq r s ≡ true → r ≡ s
reply_eq-is (Map a s k) (Map b t l) e =
    let first = and_parts (a == b) ((s == t) && same_list k l) e in
    let second = and_parts (s == t) (same_list k l) first.1 in
    λ i. Map (eqb-true a b first.0 i) (eqb-true s t second.0 i) ((bytes_decides k l).0 second.1 i)
reply_eq-is (Reduce a p) (Reduce b q) e = let both = and_parts (a == b) (p == q) e in λ i. Reduce (eqb-true a b both.0 i) (eqb-true p q both.1 i)
reply_eq-is Wait Wait e = refl
reply_eq-is (Stop x) (Stop y) e = ap Stop (end_eq-is x y e)
reply_eq-is (Region x) (Region y) e = ap Region (eqb-true x y e)
reply_eq-is Gone Gone e = refl
reply_eq-is Accepted Accepted e = refl
reply_eq-is Ignored Ignored e = refl
reply_eq-is _ _ e = absurd (false≢true e)

-- Q holds of each event and reply with the state that the change leaves
pub record Rule (sh : Shape) (st : State) (Q : Event → Reply → State → Type 0) : Type 0 where
  pub stays : (e : Event) (r : Reply) → (r ≡ Accepted → ⊥) → Q e r st
  pub finishes : (e : Event) (r : Reply) (a : ℕ) → (r ≡ Accepted → ⊥) → Q e r (finish a st)
  pub fetches : (a m p : ℕ) (at : Attempt) (sp : Split) (o : ℕ × ℕ) → live_attempt st a ≡ Some at → at.task ≡ ReduceTask p → slice_get st.splits m ≡ Some sp → sp.output ≡ Some o → Q (Fetch a m) (Region (o.0)) (fetch a m (o.0) st)
  pub completes : (a o s : ℕ) (at : Attempt) → live_attempt st a ≡ Some at → at.task ≡ MapTask s → takes at.skips (slice_get st.splits s) ≡ true → Q (MapDone a o) Accepted (complete s at.skips o at.worker (finish a st))
  pub notes : (a s r : ℕ) → Q (MapFailed a r) Accepted (note_failure s r (finish a st))
  pub leaves : (a s r : ℕ) (at : Attempt) → live_attempt st a ≡ Some at → at.task ≡ MapTask s → may_leave_out r (slice_get st.splits s) ≡ true → left_out st < sh.limits.skips → Q (MapFailed a r) Accepted (leave_out s r (note_failure s r (finish a st)))
  pub commits : (a o p : ℕ) (at : Attempt) → live_attempt st a ≡ Some at → at.task ≡ ReduceTask p → is_complete st (ReduceTask p) ≡ false → list_all is_some at.fetched ≡ true → Q (ReduceDone a o) Accepted (commit p o (finish a st))
  pub loses : (w : ℕ) → is_active st w ≡ true → Q (Lose w) Accepted (lose w st)
  pub damages : (a m p o : ℕ) (at : Attempt) → live_attempt st a ≡ Some at → at.task ≡ ReduceTask p → latest_in (slice_get at.fetched m) ≡ Some o → Q (Damaged a m) Accepted (damage m o (finish a st))
  pub issues_map : (w a s : ℕ) (k : List ℕ) → is_active st w ≡ true → may_give sh st w (MapTask s) ≡ true → option_map_or (λ (sp : Split). same_list sp.skips k) (slice_get st.splits s) false ≡ true → Q (Ask w) (Map a s k) (issue w (MapTask s) k sh st)
  pub issues_reduce : (w a p : ℕ) → is_active st w ≡ true → may_give sh st w (ReduceTask p) ≡ true → Q (Ask w) (Reduce a p) (issue w (ReduceTask p) [] sh st)

-- a step of a job that has not ended leaves a state of Q, settled
pub record Settled (sh : Shape) (Q : Event → Reply → State → Type 0) (e : Event) (r : Reply) (new : State) : Type 0 where
  pub mid : State
  pub over : Bool
  pub holds : Q e r mid
  pub is : new ≡ settled sh mid over

module _ (sh : Shape) (st : State) (Q : Event → Reply → State → Type 0) (rule : Rule sh st Q) where
  abbrev At : Event → Outcome → Type 0
  At e out = Q e out.reply out.state

  fetch_from : (a m p : ℕ) (at : Attempt) (sp : Split) (x : Option (ℕ × ℕ)) → live_attempt st a ≡ Some at → at.task ≡ ReduceTask p → slice_get st.splits m ≡ Some sp → sp.output ≡ x → At (Fetch a m) (fetched_from st a m x)
  fetch_from a m p at sp None l t s o = rule.finishes (Fetch a m) Gone a (λ d. cc d)
  fetch_from a m p at sp (Some x) l t s o = rule.fetches a m p at sp x l t s o

  fetch_case : (a m : ℕ) (at : Attempt) (t : Task) (x : Option Split) → live_attempt st a ≡ Some at → at.task ≡ t → slice_get st.splits m ≡ x → At (Fetch a m) (fetch_by st a m t x)
  fetch_case a m at (ReduceTask p) None l t s = rule.stays (Fetch a m) Ignored (λ d. cc d)
  fetch_case a m at (ReduceTask p) (Some sp) l t s = fetch_from a m p at sp sp.output l t s refl
  fetch_case a m at (MapTask s) x l t e = rule.stays (Fetch a m) Ignored (λ d. cc d)

  done_case : (a o : ℕ) (at : Attempt) (t : Task) → live_attempt st a ≡ Some at → at.task ≡ t → At (MapDone a o) (map_done_by st a o at t)
  done_case a o at (ReduceTask p) l t = rule.stays (MapDone a o) Ignored (λ d. cc d)
  done_case a o at (MapTask s) l t = by (takes at.skips (slice_get st.splits s)) refl
    where
      by : (b : Bool) → takes at.skips (slice_get st.splits s) ≡ b → At (MapDone a o) (cond b (replies Accepted (complete s at.skips o at.worker (finish a st))) (replies Ignored (finish a st)))
      by true e = rule.completes a o s at l t e
      by false e = rule.finishes (MapDone a o) Ignored a (λ d. cc d)

  failed_case : (a r : ℕ) (at : Attempt) (t : Task) → live_attempt st a ≡ Some at → at.task ≡ t → At (MapFailed a r) (map_failed_by sh st a r t)
  failed_case a r at (ReduceTask p) l t = rule.stays (MapFailed a r) Ignored (λ d. cc d)
  failed_case a r at (MapTask s) l t = by (failed_before st s r && may_leave_out r (slice_get st.splits s)) refl (nat_lt (left_out st) sh.limits.skips) refl
    where
      by : (b : Bool) → (failed_before st s r && may_leave_out r (slice_get st.splits s)) ≡ b → (c : Bool) → nat_lt (left_out st) sh.limits.skips ≡ c
          → At (MapFailed a r) (cond b (cond c (replies Accepted (leave_out s r (note_failure s r (finish a st)))) (record { reply = Accepted; state = note_failure s r (finish a st); over = true })) (replies Accepted (note_failure s r (finish a st))))
      by false e c d = rule.notes a s r
      by true e false d = rule.notes a s r
      by true e true d = rule.leaves a s r at l t ((and_parts (failed_before st s r) _ e).1) (ltb-true (left_out st) sh.limits.skips d)

  reduced_case : (a o : ℕ) (at : Attempt) (t : Task) → live_attempt st a ≡ Some at → at.task ≡ t → At (ReduceDone a o) (reduce_done_by st a o at t)
  reduced_case a o at (MapTask s) l t = rule.stays (ReduceDone a o) Ignored (λ d. cc d)
  reduced_case a o at (ReduceTask p) l t = by (not (is_complete st (ReduceTask p)) && list_all is_some at.fetched) refl
    where
      by : (b : Bool) → (not (is_complete st (ReduceTask p)) && list_all is_some at.fetched) ≡ b → At (ReduceDone a o) (cond b (replies Accepted (commit p o (finish a st))) (replies Ignored (finish a st)))
      by true e = let both = and_parts (not (is_complete st (ReduceTask p))) (list_all is_some at.fetched) e in rule.commits a o p at l t (not-true _ both.0) both.1
      by false e = rule.finishes (ReduceDone a o) Ignored a (λ d. cc d)

  damaged_case : (a m : ℕ) (at : Attempt) (t : Task) → live_attempt st a ≡ Some at → at.task ≡ t → At (Damaged a m) (damaged_by st a m at t)
  damaged_case a m at (MapTask s) l t = rule.stays (Damaged a m) Ignored (λ d. cc d)
  damaged_case a m at (ReduceTask p) l t = by (latest_in (slice_get at.fetched m)) refl
    where
      by : (o : Option ℕ) → latest_in (slice_get at.fetched m) ≡ o → At (Damaged a m) (damaged_from st a m o)
      by None e = rule.finishes (Damaged a m) Ignored a (λ d. cc d)
      by (Some o) e = rule.damages a m p o at l t e

  live_case : (e : Event) (a : ℕ) (x : Option Attempt) (f : Attempt → Outcome) → live_attempt st a ≡ x → ((at : Attempt) → live_attempt st a ≡ Some at → At e (f at)) → At e (on_live st x f)
  live_case e a None f d g = rule.stays e Ignored (λ d. cc d)
  live_case e a (Some at) f d g = g at d

  outcome_case : (e : Event) → At e (outcome sh st e)
  outcome_case (Ask w) = rule.stays (Ask w) Ignored (λ d. cc d)
  outcome_case (Fetch a m) = live_case (Fetch a m) a (live_attempt st a) _ refl (λ at l. fetch_case a m at at.task (slice_get st.splits m) l refl refl)
  outcome_case (MapDone a o) = live_case (MapDone a o) a (live_attempt st a) _ refl (λ at l. done_case a o at at.task l refl)
  outcome_case (MapFailed a r) = live_case (MapFailed a r) a (live_attempt st a) _ refl (λ at l. failed_case a r at at.task l refl)
  outcome_case (ReduceDone a o) = live_case (ReduceDone a o) a (live_attempt st a) _ refl (λ at l. reduced_case a o at at.task l refl)
  outcome_case (Damaged a m) = live_case (Damaged a m) a (live_attempt st a) _ refl (λ at l. damaged_case a m at at.task l refl)
  outcome_case (Lose w) = by (is_active st w) refl
    where
      by : (b : Bool) → is_active st w ≡ b → At (Lose w) (cond b (replies Accepted (lose w st)) (replies Ignored st))
      by true e = rule.loses w e
      by false e = rule.stays (Lose w) Ignored (λ d. cc d)

  given_case : (w : ℕ) (r : Reply) (new : State) → is_active st w ≡ true → given sh st w r ≡ Some new → Q (Ask w) r new
  given_case w (Map a s k) new act e =
      let c = cond_some _ (issue w (MapTask s) k sh st) new e in
      let listed : Bool = option_map_or (λ (sp : Split). same_list sp.skips k) (slice_get st.splits s) false in
      let g : (may_give sh st w (MapTask s) ≡ true) × (listed ≡ true) = and_parts (may_give sh st w (MapTask s)) listed ((and_parts (a == length st.attempts) (may_give sh st w (MapTask s) && listed) (c.0)).1) in
      subst (Q (Ask w) (Map a s k)) (c.1) (rule.issues_map w a s k act g.0 g.1)
  given_case w (Reduce a p) new act e =
      let c = cond_some _ (issue w (ReduceTask p) [] sh st) new e in
      subst (Q (Ask w) (Reduce a p)) (c.1) (rule.issues_reduce w a p act ((and_parts _ (may_give sh st w (ReduceTask p)) (c.0)).1))
  given_case w Wait new act e = by (list_any (may_give sh st w) (tasks sh)) e
    where
      by : (b : Bool) → cond b None (Some st) ≡ Some new → Q (Ask w) Wait new
      by true e = absurd (cc e)
      by false e = let same : st ≡ new = cc e in subst (Q (Ask w) Wait) same (rule.stays (Ask w) Wait (λ d. cc d))
  given_case w (Stop x) new act e = absurd (cc e)
  given_case w (Region x) new act e = absurd (cc e)
  given_case w Gone new act e = absurd (cc e)
  given_case w Accepted new act e = absurd (cc e)
  given_case w Ignored new act e = absurd (cc e)

  asked_case : (w : ℕ) (r : Reply) (new : State) → asked sh st w r ≡ Some new → Q (Ask w) r new
  asked_case w r new e = by (is_active st w) refl e
    where
      by : (b : Bool) → is_active st w ≡ b → cond b (given sh st w r) (cond (reply_eq r (Stop Dismissed)) (Some st) None) ≡ Some new → Q (Ask w) r new
      by true act e = given_case w r new act e
      by false act e =
          let c = cond_some _ st new e in
          let is : r ≡ Stop Dismissed = reply_eq-is r (Stop Dismissed) c.0 in
          subst (Q (Ask w) r) (c.1) (rule.stays (Ask w) r (λ d. cc (is, d)))

  then_case : (w : ℕ) (r : Reply) (x : Option State) (new : State) → ((mid : State) → x ≡ Some mid → Q (Ask w) r mid) → then_settled sh x ≡ Some new → Settled sh Q (Ask w) r new
  then_case w r None new g e = absurd (cc e)
  then_case w r (Some mid) new g e = let same : settled sh mid false ≡ new = cc e in record { mid = mid; over = false; holds = g mid refl; is = sym same }

  out_case : (e : Event) (r : Reply) (new : State) → cond (reply_eq r (outcome sh st e).reply) (Some (settled sh (outcome sh st e).state (outcome sh st e).over)) None ≡ Some new → Settled sh Q e r new
  out_case e r new h =
      let c = cond_some (reply_eq r (outcome sh st e).reply) _ new h in
      record { mid = (outcome sh st e).state; over = (outcome sh st e).over; holds = subst (λ s. Q e s (outcome sh st e).state) (sym (reply_eq-is r (outcome sh st e).reply c.0)) (outcome_case e); is = sym (c.1) }

  going_case : (e : Event) (r : Reply) (new : State) → next_going sh st e r ≡ Some new → Settled sh Q e r new
  going_case (Ask w) r new h = then_case w r (asked sh st w r) new (asked_case w r) h
  going_case (Fetch a m) r new h = out_case (Fetch a m) r new h
  going_case (MapDone a o) r new h = out_case (MapDone a o) r new h
  going_case (MapFailed a m) r new h = out_case (MapFailed a m) r new h
  going_case (ReduceDone a o) r new h = out_case (ReduceDone a o) r new h
  going_case (Lose w) r new h = out_case (Lose w) r new h
  going_case (Damaged a m) r new h = out_case (Damaged a m) r new h

  ended_reply : (end : End) (e : Event) → reply_ended end e ≡ Accepted → ⊥
  ended_reply end (Ask w) d = cc d
  ended_reply end _ d = cc d

  next_case : (x : Option End) (e : Event) (r : Reply) (new : State) → next_by sh st e r x ≡ Some new → ((new ≡ st) × Q e r st) ⊎ Settled sh Q e r new
  next_case None e r new h = inr (going_case e r new h)
  next_case (Some end) e r new h =
      let c = cond_some (reply_eq r (reply_ended end e)) st new h in
      let is : r ≡ reply_ended end e = reply_eq-is r (reply_ended end e) c.0 in
      inl (sym (c.1), rule.stays e r (λ d. ended_reply end e (sym is ∙ d)))

  -- after any step: the job had ended and nothing has changed, or a change was made and the ends were tested
  pub step_case : (e : Event) (r : Reply) (new : State) → Step sh st e r new → ((new ≡ st) × Q e r st) ⊎ Settled sh Q e r new
  step_case e r new h = next_case st.end e r new h

  -- where Q doesn't see the end, it holds after any step
  pub step_holds : ((e : Event) (r : Reply) (mid : State) (over : Bool) → Q e r mid → Q e r (settled sh mid over)) → (e : Event) (r : Reply) (new : State) → Step sh st e r new → Q e r new
  step_holds blind e r new h =
      elim (step_case e r new h) [
        | inl same ↦ subst (Q e r) (sym same.0) same.1
        | inr s ↦ subst (Q e r) (sym s.is) (blind e r s.mid s.over s.holds)
      ]
