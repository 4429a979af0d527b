-- The left-out records of a split whose set is fixed never change.
use Rattle.std.proofs.Common.{◌≡◌, ℕ, Option, Some, None, List, [], ◌∷◌, slice_get, refl, ap, sym, ◌∙◌, subst, inl, inr, Bool, true, not, ◌||◌, is_none}
use Rattle.std.specs.Cmp.Lexicographic.{bytes_decides}
use Rattle.std.proofs.lemmas.Bool.{and_parts, or_cases, not-true, true≢false, cases_eq}
use Rattle.std.proofs.lemmas.Option.{some_pair_parts}
use Rattle.mr_core.specs.declared.event.Event.{Event}
use Rattle.mr_core.specs.declared.event.Reply.{Reply}
use Rattle.mr_core.specs.declared.event.Shape.{Shape}
use Rattle.mr_core.specs.declared.entries.Split.{Split}
use Rattle.mr_core.specs.Master.{State, Attempt, Step, Run, update_at, complete, finish, leave_out, note_failure, gone_with, without_output, takes, may_leave_out, with_number, same_list}
use Rattle.mr_core.specs.Laws.{IsFixedTo}
use Rattle.mr_core.proofs.StepCases.{Rule, step_holds}
use Rattle.mr_core.proofs.Places.{map-update, map-update_same, map-map_same, get-update_here, get-update_other, get-map_from}
use Rattle.mr_core.proofs.Steps.{set_of, sets, set_at}
use Rattle.mr_core.proofs.Views.{Sets}

-- what is fixed in the old sets is fixed in the new ones
abbrev pub Keeps : Sets → Sets → Type 0
Keeps old new = (s : ℕ) (k : List ℕ) → slice_get old s ≡ Some (k, true) → slice_get new s ≡ Some (k, true)

module _ (sh : Shape) (st : State) where
  abbrev KeepsTo : State → Type 0
  KeepsTo new = Keeps (sets st) (sets new)

  -- a fixed set is completed again under itself alone
  same_again : (s i : ℕ) (k j : List ℕ) (x : Option Split) → slice_get st.splits s ≡ x → takes j x ≡ true → s ≡ i → slice_get (sets st) i ≡ Some (k, true) → j ≡ k
  same_again s i k j None is t same h = absurd (cc t)
  same_again s i k j (Some sp) is t same h =
      let parts = some_pair_parts sp.skips k sp.fixed true (sym (set_at st s sp is) ∙ (ap (slice_get (sets st)) same ∙ h)) in
      let free : (not sp.fixed || same_list sp.skips j) ≡ true = (and_parts (is_none sp.output) (not sp.fixed || same_list sp.skips j) t).1 in
      elim (or_cases (not sp.fixed) (same_list sp.skips j) free) [
        | inl e ↦ absurd (true≢false (sym parts.1 ∙ not-true sp.fixed e))
        | inr e ↦ sym ((bytes_decides sp.skips j).0 e) ∙ parts.0
      ]

  completed : (a o s : ℕ) (at : Attempt) → takes at.skips (slice_get st.splits s) ≡ true → KeepsTo (complete s at.skips o at.worker (finish a st))
  completed a o s at t i k h =
      let f : List ℕ × Bool → List ℕ × Bool = λ p. (at.skips, true) in
      let d : sets (complete s at.skips o at.worker (finish a st)) ≡ update_at f s (sets st) =
      map-update set_of (λ p. record { skips = at.skips; fixed = true; output = Some (o, at.worker) }) f (λ p. refl) s st.splits in
      ap (λ l. slice_get l i) d ∙ (elim (cases_eq s i) [
        | inl same ↦ ap (λ n. slice_get (update_at f s (sets st)) n) (sym same)
            ∙ (get-update_here f s (sets st) (k, true) (ap (slice_get (sets st)) same ∙ h)
            ∙ ap (λ l. Some (l, true)) (same_again s i k at.skips (slice_get st.splits s) refl t same h))
        | inr other ↦ get-update_other f s i (sets st) other ∙ h
      ])

  -- no record is left out of a split whose set is fixed
  not_fixed : (r s i : ℕ) (k : List ℕ) (x : Option Split) → slice_get st.splits s ≡ x → may_leave_out r x ≡ true → s ≡ i → slice_get (sets st) i ≡ Some (k, true) → ⊥
  not_fixed r s i k None is t same h = cc t
  not_fixed r s i k (Some sp) is t same h =
      let parts = some_pair_parts sp.skips k sp.fixed true (sym (set_at st s sp is) ∙ (ap (slice_get (sets st)) same ∙ h)) in
      true≢false (sym parts.1 ∙ not-true sp.fixed ((and_parts (not sp.fixed) _ t).0))

  left_out_more : (a s r : ℕ) → may_leave_out r (slice_get st.splits s) ≡ true → KeepsTo (leave_out s r (note_failure s r (finish a st)))
  left_out_more a s r t i k h =
      let f : List ℕ × Bool → List ℕ × Bool = λ p. (with_number r (p.0), p.1) in
      let d : sets (leave_out s r (note_failure s r (finish a st))) ≡ update_at f s (sets st) =
      map-update set_of (λ p. record p { skips = with_number r p.skips }) f (λ p. refl) s st.splits in
      ap (λ l. slice_get l i) d ∙ (get-update_other f s i (sets st) (λ same. not_fixed r s i k (slice_get st.splits s) refl t same h) ∙ h)

  keeps_rule : Rule sh st (λ e r new. KeepsTo new)
  keeps_rule = record {
    stays = λ e r n s k h. h;
    finishes = λ e r a n s k h. h;
    fetches = λ a m p at sp o l t s so i k h. h;
    completes = λ a o s at l t k. completed a o s at k;
    notes = λ a s r i k h. h;
    leaves = λ a s r at l t m less. left_out_more a s r m;
    commits = λ a o p at l t c f i k h. h;
    loses = λ w act i k h. ap (λ l. slice_get l i) (map-map_same set_of (gone_with w) (λ sp. refl) st.splits) ∙ h;
    damages = λ a m p o at l t e i k h. ap (λ l. slice_get l i) (map-update_same set_of (without_output o) (λ sp. refl) m st.splits) ∙ h;
    issues_map = λ w a s k act m listed i j h. h;
    issues_reduce = λ w a p act m i k h. h;
  }

  step_keeps : (e : Event) (r : Reply) (new : State) → Step sh st e r new → KeepsTo new
  step_keeps = step_holds sh st (λ e r new. KeepsTo new) keeps_rule (λ e r mid over s. s)

run_keeps : (sh : Shape) (st : State) (h : List (Event × Reply)) (new : State) → Run sh st h new → Keeps (sets st) (sets new)
run_keeps sh st [] new run i k h = subst (λ s. slice_get (sets s) i ≡ Some (k, true)) (sym run) h
run_keeps sh st (e ∷ es) new run i k h = run_keeps sh run.0 es new run.2 i k (step_keeps sh st (e.0) (e.1) run.0 run.1 i k h)

pub fixed_stays : (sh : Shape) (st new : State) (later : List (Event × Reply)) → Run sh st later new → (s : ℕ) (k : List ℕ) → IsFixedTo st s k → IsFixedTo new s k
fixed_stays sh st new later run s k is =
    let old : slice_get (sets st) s ≡ Some (k, true) = set_at st s is.0 is.1 ∙ (λ i. Some (is.3 i, is.2 i)) in
    let found = get-map_from set_of new.splits s (k, true) (run_keeps sh st later new run s k old) in
    let parts = some_pair_parts found.0.skips k found.0.fixed true (ap (λ p. Some p) (sym found.2)) in
    (found.0, found.1, parts.1, parts.0)
