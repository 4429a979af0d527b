-- Runs: one step more, one answer, and the replay.
use Rattle.std.proofs.Common.{◌≡◌, Option, Some, None, List, [], ◌∷◌, ◌++◌, refl, ap, sym, ◌∙◌, subst}
use Rattle.mr_core.specs.declared.event.Event.{Event}
use Rattle.mr_core.specs.declared.event.Reply.{Reply}
use Rattle.mr_core.specs.declared.event.Shape.{Shape}
use Rattle.mr_core.specs.Master.{State, Step, Run, next, replay_from}

-- given the state, the event and the reply, the state after is one
pub step_one : (sh : Shape) (st : State) (e : Event) (r : Reply) (a b : State) → Step sh st e r a → Step sh st e r b → a ≡ b
step_one sh st e r a b s t = cc (s, t)

pub run_push : (sh : Shape) (st : State) (h : List (Event × Reply)) (mid : State) (e : Event) (r : Reply) (new : State) → Run sh st h mid → Step sh mid e r new → Run sh st (h ++ (e, r) ∷ []) new
run_push sh st [] mid e r new run step = (new, subst (λ (s : State). Step sh s e r new) run step, refl)
run_push sh st (x ∷ h) mid e r new run step = (run.0, run.1, run_push sh run.0 h mid e r new run.2 step)

pub replay_run : (sh : Shape) (st : State) (h : List (Event × Reply)) (new : State) → Run sh st h new → replay_from sh (Some st) h ≡ Some new
replay_run sh st [] new run = ap Some (sym run)
replay_run sh st (x ∷ h) new run = ap (λ o. replay_from sh o h) run.1 ∙ replay_run sh run.0 h new run.2

pub run_replay : (sh : Shape) (st : State) (h : List (Event × Reply)) (new : State) → replay_from sh (Some st) h ≡ Some new → Run sh st h new
run_replay sh st [] new e = let same : st ≡ new = cc e in sym same
run_replay sh st (x ∷ h) new e = by (next sh st (x.0) (x.1)) refl e (λ s. run_replay sh s h new)
  where
    by : (o : Option State) → next sh st (x.0) (x.1) ≡ o → replay_from sh o h ≡ Some new → ((s : State) → replay_from sh (Some s) h ≡ Some new → Run sh s h new) → (mid : State) × Step sh st (x.0) (x.1) mid × Run sh mid h new
    by None is e ih = absurd (cc e)
    by (Some s) is e ih = (s, is, ih s e)
