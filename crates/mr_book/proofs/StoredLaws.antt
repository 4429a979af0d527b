-- The output that a split has, and the one that is committed for a partition, are stored.
use Rattle.std.proofs.Common.{◌≡◌, ℕ, zero, suc, ◌≤◌, length, Option, Some, None, List, [], ◌∷◌, slice_get, refl, ap, sym, ◌∙◌, subst, Bool, true, false, cond, inl, inr, arith}
use Rattle.std.specs.Prelude.{IsSome, ◌==◌}
use Rattle.std.proofs.lemmas.Bool.Decides.{nat_tests}
use Rattle.std.proofs.lemmas.List.{length-replicate, length-map}
use Rattle.mr_bytes.specs.Lists.{Has}
use Rattle.mr_bytes.proofs.ListLaws.{Has-flat_map}
use Rattle.mr_core.specs.declared.event.Event.{Event}
use Rattle.mr_core.specs.declared.event.Event.TheVariants.{MapDone, ReduceDone}
use Rattle.mr_core.specs.declared.event.Reply.{Reply}
use Rattle.mr_core.specs.declared.event.Reply.TheVariants.{Accepted}
use Rattle.mr_core.specs.declared.event.Shape.{Shape}
use Rattle.mr_core.specs.declared.entries.Split.{Split}
use Rattle.mr_core.specs.Master.{State, Step, Run, opening}
use Rattle.mr_core.specs.Looks.{number_of, split_output, output_of, part_output, committed_of}
use Rattle.mr_core.proofs.FetchLaws.{output_was_accepted, part_was_accepted}
use Rattle.mr_core.proofs.Progress.{length-update}
use Rattle.mr_core.proofs.StepCases.{Rule, step_holds}
use Rattle.mr_book.specs.Stored.{numbers, stored_at}
use Rattle.mr_task.specs.Values.{Reduced}
use Rattle.mr_task.specs.Laid.{Laid}
use Rattle.mr_book.specs.View.{accepted_map, accepted_maps, accepted_reduce, accepted_reduces}

-- ---- what a split has is stored

stored_there : {V : Type 0} (stored : List (ℕ × V)) (number : ℕ) → Has (numbers stored) number → IsSome (stored_at stored number)
stored_there [] number has = absurd has
stored_there (s ∷ stored) number has = by (s.0 == number) refl has (stored_there stored number)
  where
    by : (b : Bool) → (s.0 == number) ≡ b → Has (numbers (s ∷ stored)) number → (Has (numbers stored) number → IsSome (stored_at stored number)) → IsSome (cond b (Some (s.1)) (stored_at stored number))
    by true is has rest = refl
    by false is (inl e) rest = absurd (grind (arith, nat_tests))
    by false is (inr has) rest = rest has

has_output : (sh : Shape) (h : List (Event × Reply)) (st : State) → Run sh (opening sh) h st → (s x : ℕ) → output_of st s ≡ Some x → Has (accepted_maps h) x
has_output sh h st run s x e = by (slice_get st.splits s) refl e
  where
    accepted : (sp : Split) (o : ℕ × ℕ) → slice_get st.splits s ≡ Some sp → sp.output ≡ Some o → o.0 ≡ x → Has (accepted_maps h) x
    accepted sp o at out same =
        let was = output_was_accepted sh h st run s sp (o.0) (o.1) at out in
        subst (Has (accepted_maps h)) same (Has-flat_map accepted_map h (MapDone (was.0) (o.0), Accepted) (o.0) (was.1) (inl refl))

    of_output : (sp : Split) (o : Option (ℕ × ℕ)) → slice_get st.splits s ≡ Some sp → sp.output ≡ o → number_of o ≡ Some x → Has (accepted_maps h) x
    of_output sp None at out e = absurd (cc e)
    of_output sp (Some o) at out e = let same : o.0 ≡ x = cc e in accepted sp o at out same

    by : (o : Option Split) → slice_get st.splits s ≡ o → split_output o ≡ Some x → Has (accepted_maps h) x
    by None at e = absurd (cc e)
    by (Some sp) at e = of_output sp sp.output at refl e

-- the output that a split has is stored
pub output_stored : (sh : Shape) (h : List (Event × Reply)) (st : State) (maps : List (ℕ × Laid)) → Run sh (opening sh) h st → numbers maps ≡ accepted_maps h
    → (s x : ℕ) → output_of st s ≡ Some x → IsSome (stored_at maps x)
output_stored sh h st maps run same s x e = stored_there maps x (subst (λ (l : List ℕ). Has l x) (sym same) (has_output sh h st run s x e))

has_committed : (sh : Shape) (h : List (Event × Reply)) (st : State) → Run sh (opening sh) h st → (p x : ℕ) → committed_of st p ≡ Some x → Has (accepted_reduces h) x
has_committed sh h st run p x e = by (slice_get st.committed p) refl e
  where
    by : (o : Option (Option ℕ)) → slice_get st.committed p ≡ o → part_output o ≡ Some x → Has (accepted_reduces h) x
    by None at e = absurd (cc e)
    by (Some None) at e = absurd (cc e)
    by (Some (Some y)) at e =
        let was = part_was_accepted sh h st run p x (at ∙ ap Some e) in
        Has-flat_map accepted_reduce h (ReduceDone (was.0) x, Accepted) x (was.1) (inl refl)

-- the output that is committed for a partition is stored
pub commit_stored : (sh : Shape) (h : List (Event × Reply)) (st : State) (reduces : List (ℕ × Reduced)) → Run sh (opening sh) h st → numbers reduces ≡ accepted_reduces h
    → (p x : ℕ) → committed_of st p ≡ Some x → IsSome (stored_at reduces x)
commit_stored sh h st reduces run same p x e = stored_there reduces x (subst (λ (l : List ℕ). Has l x) (sym same) (has_committed sh h st run p x e))

-- ---- there are as many splits as at the opening

module _ (sh : Shape) (st : State) where
  abbrev AsMany : Event → Reply → State → Type 0
  AsMany e r new = length new.splits ≡ length st.splits

  as_many : Rule sh st AsMany
  as_many = record {
    stays = λ e r n. refl;
    finishes = λ e r a n. refl;
    fetches = λ a m p at sp o l t s e. refl;
    completes = λ a o s at l t e. length-update _ s st.splits;
    notes = λ a s r. refl;
    leaves = λ a s r at l t m less. length-update _ s st.splits;
    commits = λ a o p at l t e f. refl;
    loses = λ w act. length-map st.splits _;
    damages = λ a m p o at l t e. length-update _ m st.splits;
    issues_map = λ w a s k act m l. refl;
    issues_reduce = λ w a p act m. refl;
  }

  step_as_many : (e : Event) (r : Reply) (new : State) → Step sh st e r new → AsMany e r new
  step_as_many = step_holds sh st AsMany as_many (λ e r mid over same. same)

run_as_many : (sh : Shape) (st : State) (h : List (Event × Reply)) (new : State) → Run sh st h new → length new.splits ≡ length st.splits
run_as_many sh st [] new run = ap (λ (s : State). length s.splits) run
run_as_many sh st (x ∷ h) new run = run_as_many sh run.0 h new run.2 ∙ step_as_many sh st (x.0) (x.1) run.0 run.1

get_past : {X : Type 0} (xs : List X) (i : ℕ) → length xs ≤ i → slice_get xs i ≡ None
get_past [] i le = refl
get_past (x ∷ xs) zero le = absurd (omega arith)
get_past (x ∷ xs) (suc i) le = get_past xs i (omega arith)

-- a split that isn't there has no output
pub none_past : (sh : Shape) (h : List (Event × Reply)) (st : State) → Run sh (opening sh) h st → (s : ℕ) → sh.maps ≤ s → output_of st s ≡ None
none_past sh h st run s le =
    let many = run_as_many sh (opening sh) h st run in
    let first = length-replicate sh.maps (let none : Split = record { skips = []; fixed = false; output = None } in none) in
    ap split_output (get_past st.splits s (omega (arith, many, first)))
