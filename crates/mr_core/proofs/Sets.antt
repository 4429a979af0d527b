-- The records left out of a split rise, and each was reported.
use Rattle.std.proofs.Common.{◌≡◌, ℕ, Option, Some, None, List, slice_get, refl, subst, inl, inr}
use Rattle.std.specs.List.{AllByRecursion}
use Rattle.std.specs.Ordering.{nat_cmp}
use Rattle.mr_bytes.specs.Lists.{Has, Rises}
use Rattle.mr_core.proofs.Rising.{Has-all, all_from_Has}
use Rattle.mr_core.proofs.Rising.{placed-cases, placed-rises}
use Rattle.mr_core.specs.declared.event.Event.{Event}
use Rattle.mr_core.specs.declared.event.Reply.{Reply}
use Rattle.mr_core.specs.declared.event.Shape.{Shape}
use Rattle.mr_core.specs.declared.entries.Split.{Split}
use Rattle.mr_core.specs.Master.{State, Run, opening, with_number}
use Rattle.mr_core.specs.declared.event.Task.TheVariants.{Map as MapTask, Reduce as ReduceTask}
use Rattle.mr_core.specs.declared.event.Event.TheVariants.{MapFailed, ReduceDone}
use Rattle.mr_core.specs.declared.event.Reply.TheVariants.{Accepted}
use Rattle.mr_core.proofs.Steps.{jobs, set_at}
use Rattle.mr_core.specs.Core.{IsReached}
use Rattle.mr_core.specs.Looks.{split_set, set_of}
use Rattle.mr_core.proofs.Traced as traced

-- a set rises, and P holds of each record in it
abbrev pub IsSet : (ℕ → ℕ → Type 0) → ℕ → List ℕ → Type 0
IsSet P s k = Rises nat_cmp k × AllByRecursion (P s) k

set_grows : (P : ℕ → ℕ → Type 0) (s r : ℕ) (k : List ℕ) → IsSet P s k → P s r → IsSet P s (with_number r k)
set_grows P s r k is p = (placed-rises r k is.0, all_from_Has (P s) (with_number r k) (λ n h. elim (placed-cases r k n h) [ inl e ↦ subst (P s) e p | inr g ↦ Has-all (P s) k n is.1 g ]))

-- over a run in which P holds of each failed record and C of each output that was committed
pub sets_and_parts : (P C : ℕ → ℕ → Type 0) (sh : Shape) (h : List (Event × Reply)) (st : State) → Run sh (opening sh) h st
    → ((a r s : ℕ) (k : List ℕ) → Has h (MapFailed a r, Accepted) → slice_get (jobs st) a ≡ Some (MapTask s, k) → P s r)
    → ((a o p : ℕ) (k : List ℕ) → Has h (ReduceDone a o, Accepted) → slice_get (jobs st) a ≡ Some (ReduceTask p, k) → C p o)
    → ((s : ℕ) (sp : Split) → slice_get st.splits s ≡ Some sp → IsSet P s sp.skips) × ((p o : ℕ) → slice_get st.committed p ≡ Some (Some o) → C p o)
sets_and_parts P C sh h st run f g =
    let t = traced.run_traced (IsSet P) P C (λ s. (tt, tt)) (set_grows P) sh (opening sh) h st run (traced.traced_at_opening (IsSet P) P C (λ s. (tt, tt)) (set_grows P) sh) f g in
    (λ s sp e. t.of_sets s sp.skips sp.fixed (set_at st s sp e), t.of_parts)

pub set_rises : (sh : Shape) (st : State) (s : ℕ) → IsReached sh st → Rises nat_cmp (set_of st s)
set_rises sh st s h = by (slice_get st.splits s) refl
  where
    by : (x : Option Split) → slice_get st.splits s ≡ x → Rises nat_cmp (split_set x)
    by None e = tt
    by (Some sp) e = ((sets_and_parts (λ s r. Unit {0}) (λ p o. Unit {0}) sh h.0 st h.1 (λ a r s k f d. tt) (λ a o p k f d. tt)).0 s sp e).0
