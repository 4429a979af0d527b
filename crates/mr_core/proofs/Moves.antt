-- What an event leads to is a step.
use Rattle.std.proofs.Common.{◌≡◌, ℕ, Some, None, List, [], ◌∷◌, ◌++◌, refl, ap, sym, ◌∙◌, Bool, true, false, cond, ◌&&◌, ◌==◌, eq-eqb}
use Rattle.std.specs.Cmp.Lexicographic.{bytes_decides}
use Rattle.mr_core.specs.declared.event.JobFault.TheVariants.{TooManyAttempts, TooManySkips, NoWorkers}
use Rattle.mr_core.specs.declared.event.End.{End}
use Rattle.mr_core.specs.declared.event.End.TheVariants.{Done, Dismissed, Failed}
use Rattle.mr_core.specs.declared.event.Event.{Event}
use Rattle.mr_core.specs.declared.event.Event.TheVariants.{Ask, Fetch, MapDone, MapFailed, ReduceDone, Lose, Damaged}
use Rattle.mr_core.specs.declared.event.Reply.{Reply}
use Rattle.mr_core.specs.declared.event.Reply.TheVariants.{Map, Reduce, Wait, Stop, Region, Gone, Accepted, Ignored}
use Rattle.mr_core.specs.declared.event.Shape.{Shape}
use Rattle.mr_core.specs.Master.{State, Outcome, Step, outcome, next_going, next_by, reply_eq, end_eq, same_list, settled, asked, then_settled}
use Rattle.mr_core.specs.Core.{IsReached}
use Rattle.mr_core.proofs.RunLaws.{run_push}

same_end : (e : End) → end_eq e e ≡ true
same_end Done = refl
same_end Dismissed = refl
same_end (Failed TooManyAttempts) = refl
same_end (Failed TooManySkips) = refl
same_end (Failed NoWorkers) = refl

pub same_number : (a : ℕ) → (a == a) ≡ true
same_number a = eq-eqb a a refl

pub both : (a b : Bool) → a ≡ true → b ≡ true → (a && b) ≡ true
both a b e d = rw e d

pub same_set : (k : List ℕ) → same_list k k ≡ true
same_set k = (bytes_decides k k).1 refl

same_reply : (r : Reply) → reply_eq r r ≡ true
same_reply (Map a s k) = both (a == a) _ (same_number a) (both (s == s) _ (same_number s) (same_set k))
same_reply (Reduce a p) = both (a == a) _ (same_number a) (same_number p)
same_reply Wait = refl
same_reply (Stop e) = same_end e
same_reply (Region o) = same_number o
same_reply Gone = refl
same_reply Accepted = refl
same_reply Ignored = refl

-- all events but Ask
abbrev IsReport : Event → Type 0
IsReport (Ask w) = ⊥
IsReport _ = Unit {0}

report_going : (sh : Shape) (st : State) (e : Event) (r : Reply) → IsReport e → next_going sh st e r ≡ cond (reply_eq r (outcome sh st e).reply) (Some (settled sh (outcome sh st e).state (outcome sh st e).over)) None
report_going sh st (Ask w) r is = absurd is
report_going sh st (Fetch a m) r is = refl
report_going sh st (MapDone a o) r is = refl
report_going sh st (MapFailed a m) r is = refl
report_going sh st (ReduceDone a o) r is = refl
report_going sh st (Lose w) r is = refl
report_going sh st (Damaged a m) r is = refl

-- where the job goes on
pub report_step : (sh : Shape) (st : State) (e : Event) (r : Reply) (mid : State) (over : Bool) (new : State) → IsReport e → st.end ≡ None → outcome sh st e ≡ record { reply = r; state = mid; over = over } → new ≡ settled sh mid over → Step sh st e r new
report_step sh st e r mid over new is none out n =
    ap (next_by sh st e r) none ∙ report_going sh st e r is
    ∙ ap (λ (o : Outcome). cond (reply_eq r o.reply) (Some (settled sh o.state o.over)) None) out
    ∙ ap (λ (b : Bool). cond b (Some (settled sh mid over)) None) (same_reply r)
    ∙ ap Some (sym n)

pub ask_step : (sh : Shape) (st : State) (w : ℕ) (r : Reply) (mid new : State) → st.end ≡ None → asked sh st w r ≡ Some mid → new ≡ settled sh mid false → Step sh st (Ask w) r new
ask_step sh st w r mid new none out n = ap (next_by sh st (Ask w) r) none ∙ ap (then_settled sh) out ∙ ap Some (sym n)

pub reach_more : (sh : Shape) (old : State) (e : Event) (r : Reply) (new : State) → IsReached sh old → Step sh old e r new → IsReached sh new
reach_more sh old e r new h step = (h.0 ++ (e, r) ∷ [], run_push sh _ h.0 old e r new h.1 step)
