-- The plain walk's loop, whatever walks the items and holds the outputs.
use Rattle.std.proofs.Common.{◌≡◌, ℕ, true, ◌+◌, ◌-◌, ◌≤◌, ◌<◌, ◌^◌, Some, Ok, Err, List, [], ◌∷◌, refl, ap, sym, subst, ◌∙◌, inr, arith}
use Rattle.std.specs.Prelude.{Result}
use Rattle.mr_certform.specs.declared.grammar_state.Item.{Item}
use Rattle.mr_certform.specs.declared.grammar_state.Item.TheVariants.{End}
use Rattle.mr_verdict.specs.declared.answers.No.{No}
use Rattle.mr_verdict.specs.declared.answers.No.TheVariants.{Malformed as malformed}
use Rattle.mr_verdict.specs.declared.items.ItemError.{ItemError}
use Rattle.mr_verdict.specs.declared.items.ItemError.TheVariants.{Malformed}
use Rattle.mr_verdict.specs.declared.items.JudgeError.{JudgeError}
use Rattle.mr_verdict.specs.declared.items.JudgeError.TheVariants.{Fault}
use Rattle.mr_verdict.specs.Verdict.{Reached, Subject, start, tests, after, part_faults, first, entries_in}
use Rattle.mr_verdict.specs.Steps.{Answers, Ground, Room, opens, subject_with}
use Rattle.mr_verdict.specs.Items.{Coming, CanCome, Each, Took, stop_of}
use Rattle.mr_judge.specs.declared.border.Border.{Border}
use Rattle.mr_judge.specs.Borders.{IsSmall, at_border, behind_entries}
use Rattle.mr_judge.specs.Outputs.{Ahead, CanCome as CanComeAhead, Fits, Onward, Through, Tested, IsTold, Judges, JudgesOn, begins}
use Rattle.mr_judge.proofs.Faults.{first_more, told_left, told_is}
use Rattle.mr_judge.proofs.PartLemmas.{faults_step, entries_more, named_after, room_after}
use Rattle.mr_judge.proofs.OutputLemmas.{onward_same, onward_then, onward_through, through_as, through_all, any_of, opens_first}

-- ---- the item that comes

-- others may come behind it
came : (now next : Coming) (i : Item) → Took now next (Ok i) → CanCome next → (is : List Item) × ((at : ℕ) × now (i ∷ is) at)
came now next End took (is, (at, there)) = let t = took is at there in ([], (at, subst (λ w. now w at) t.1 t.0))
came now next i took (is, (at, there)) = (is, (at, took is at there))

came_more : (now next : Coming) (i : Item) → Took now next (Ok i) → (i ≡ End → ⊥) → (is : List Item) (at : ℕ) → next is at → now (i ∷ is) at
came_more now next End took other is at there = absurd (other refl)
came_more now next i took other is at there = took is at there

-- where a partition begins next, it does so, unless it is the end
pub opens_next : (now next : Coming) (i : Item) → Each now begins → Took now next (Ok i) → CanCome next → (i ≡ End → ⊥) → opens i ≡ true
opens_next now next i each took some other =
    let t = came now next i took some in
    opens_first i t.0 (each (i ∷ t.0) t.1.0 t.1.1) other

-- its fault is the first of all
fault_here : (s : Subject) (at : ℕ) (st : Reached) (i : Item) (is : List Item) (f : No) → Answers (tests s st i) f → Answers (part_faults s at st (i ∷ is)) f
fault_here s at st End is f told = told
fault_here s at st i is f told = told_left (tests s st i) (part_faults s at (after s st i) is) f told

-- ---- answers from here on

pub no_item : (now next : Coming) (s : Subject) (st : Reached) (n : ℕ) (h : ItemError) → Took now next (Err h) → CanCome next → JudgesOn now s st n n (Err (stop_of h))
no_item now next s st n (Malformed place) took (is, (at, there)) =
    let t = took is at there in
    (is, (at, (t.0, (inr (ap (λ w. first (part_faults s at st w)) t.1 ∙ ap (λ k. Some (malformed k)) t.2), (omega arith, omega arith)))))
no_item now next s st n h took (is, (at, there)) = (is, (at, (took is at there, (tt, (omega arith, omega arith)))))

item_told : (now next : Coming) (s : Subject) (st : Reached) (n behind : ℕ) (i : Item) (e : JudgeError) → Took now next (Ok i) → CanCome next → behind ≡ n + entries_in (i ∷ [])
    → ((at : ℕ) (is : List Item) → IsTold (part_faults s at st (i ∷ is)) (st.named + entries_in (i ∷ is)) (Err e)) → JudgesOn now s st n behind (Err e)
item_told now next s st n behind i e took some all told =
    let t = came now next i took some in
    (i ∷ t.0, (t.1.0, (t.1.1, (told t.1.0 t.0, (omega (arith, all), omega (arith, all, entries_more i t.0))))))

-- a test fails
pub item_fault : (left new : Ahead) (now next : Coming) (b : Ground) (st last : Reached) (f : List (List ℕ) → Reached) (n behind : ℕ) (i : Item) (e : JudgeError) → CanComeAhead left → Took now next (Ok i) → CanCome next → behind ≡ n + entries_in (i ∷ [])
    → Tested left new st last (λ outs. tests (subject_with b outs) st i) f (Err e) → Through left st (λ outs. JudgesOn now (subject_with b outs) st n behind (Err e))
item_fault left new now next b st last f n behind i (Fault g) some took given all told =
    through_as left st (λ outs. Answers (tests (subject_with b outs) st i) g) (λ outs. JudgesOn now (subject_with b outs) st n behind (Err (Fault g))) told
    (λ outs h. item_told now next (subject_with b outs) st n behind i (Fault g) took given all (λ at is. fault_here (subject_with b outs) at st i is g h))
item_fault left new now next b st last f n behind i e some took given all told =
    through_all left st (λ outs. JudgesOn now (subject_with b outs) st n behind (Err e)) some (λ outs. item_told now next (subject_with b outs) st n behind i e took given all (λ at is. tt))

-- all tests passed, and it is the end
pub item_ended : (now next : Coming) (s : Subject) (st : Reached) (n : ℕ) → Took now next (Ok End) → CanCome next → tests s st End ≡ [] → JudgesOn now s st n n (Ok st.named)
item_ended now next s st n took (is, (at, there)) none =
    let t = took is at there in
    (is, (at, (t.0, ((ap (λ w. first (part_faults s at st w)) t.1 ∙ ap first none, omega (arith, ap entries_in t.1)), (omega arith, omega arith)))))

-- ---- the loop

-- the items so far stood: those that may still come have the same first fault as all
abbrev pub Judging : Coming → Coming → Subject → Reached → Reached → Type 0
Judging old now s begun st =
    (is : List Item) (at : ℕ) → now is at → (js : List Item) × (old js at × ((first (part_faults s at st is) ≡ first (part_faults s at begun js)) × (st.named + entries_in is ≡ begun.named + entries_in js)))

-- of outputs that may be
abbrev pub Going : Ahead → Ahead → Coming → Coming → Ground → Reached → Reached → Type 0
Going ahead left old now b begun st = Onward ahead left begun st (λ outs. Judging old now (subject_with b outs) begun st)

-- by how many names were looked up before and so far: one for each entry
pub record Counts (begun st : Reached) (before looked : ℕ) : Type 0 where
  pub more : begun.named ≤ st.named
  pub each : looked + begun.named ≡ before + st.named

pub going_first : (ahead : Ahead) (old : Coming) (b : Ground) (begun st : Reached) → st ≡ begun → Going ahead ahead old old b begun st
going_first ahead old b begun st e =
    onward_same ahead begun st (λ outs. Judging old old (subject_with b outs) begun st) e
    (λ outs is at there. (is, (there, (ap (λ w. first (part_faults (subject_with b outs) at w is)) e, ap (λ (w : Reached). w.named + entries_in is) e))))

judging_next : (old now next : Coming) (s : Subject) (begun st : Reached) (i : Item) → Judging old now s begun st → Took now next (Ok i) → (i ≡ End → ⊥) → tests s st i ≡ [] → Judging old next s begun (after s st i)
judging_next old now next s begun st i judging took other none is at there =
    let t = judging (i ∷ is) at (came_more now next i took other is at there) in
    let same = ap first (faults_step s at st i is other) ∙ first_more (tests s st i) (part_faults s at (after s st i) is) none in
    (t.0, (t.1.0, (sym same ∙ t.1.1.0, omega (arith, named_after s st i none, entries_more i is, t.1.1.1))))

-- one more stood
pub going_next : (ahead left new : Ahead) (old now next : Coming) (b : Ground) (begun st last : Reached) (i : Item) (u : Unit {0}) → Going ahead left old now b begun st → Took now next (Ok i) → (i ≡ End → ⊥)
    → Tested left new st last (λ outs. tests (subject_with b outs) st i) (λ outs. after (subject_with b outs) st i) (Ok u) → Going ahead new old next b begun last
going_next ahead left new old now next b begun st last i u going took other told =
    onward_then ahead left new begun st last (λ outs. Judging old now (subject_with b outs) begun st) _ (λ outs. Judging old next (subject_with b outs) begun last) going told
    (λ outs judging done. subst (λ (w : Reached). Judging old next (subject_with b outs) begun w) (sym done.1) (judging_next old now next (subject_with b outs) begun st i judging took other done.0))

-- and so it counts
pub counts_next : (left new : Ahead) (b : Ground) (st last : Reached) (i : Item) (u : Unit {0}) → CanComeAhead new → Fits left st
    → Tested left new st last (λ outs. tests (subject_with b outs) st i) (λ outs. after (subject_with b outs) st i) (Ok u)
    → (last.named ≡ st.named + entries_in (i ∷ [])) × ((more all : ℕ) → Room st (more + 1) all → Room last more all)
counts_next left new b st last i u some fits told =
    let a = any_of left new st last (λ outs. (tests (subject_with b outs) st i ≡ []) × (last ≡ after (subject_with b outs) st i)) told some fits in
    let s = subject_with b a.0 in
    (ap (λ (w : Reached). w.named) a.1.1 ∙ named_after s st i a.1.0, λ more all r. subst (λ (w : Reached). Room w more all) (sym a.1.1) (room_after s st i more all r))

pub told_as : (fs gs : List No) (n m : ℕ) (r : Result ℕ JudgeError) → first gs ≡ first fs → n ≡ m → IsTold fs n r → IsTold gs m r
told_as fs gs n m (Ok k) same count h = (same ∙ h.0, h.1 ∙ count)
told_as fs gs n m (Err (Fault e)) same count h = told_is fs gs e same h
told_as fs gs n m (Err e) same count h = tt

-- an answer from here on is one on all
pub judges_all : (ahead left : Ahead) (old now : Coming) (b : Ground) (begun st : Reached) (before looked behind : ℕ) (r : Result ℕ JudgeError) → Going ahead left old now b begun st → Counts begun st before looked
    → Through left st (λ outs. JudgesOn now (subject_with b outs) st looked behind r) → Through ahead begun (λ outs. JudgesOn old (subject_with b outs) begun before behind r)
judges_all ahead left old now b begun st before looked behind r going all told =
    onward_through ahead left begun st (λ outs. Judging old now (subject_with b outs) begun st) (λ outs. JudgesOn now (subject_with b outs) st looked behind r) (λ outs. JudgesOn old (subject_with b outs) begun before behind r) going told
    (λ outs judging on. (let s = subject_with b outs in
    let is : List Item = on.0 in
    let at = on.1.0 in
    let t = judging is at on.1.1.0 in
    let h = on.1.1.1 in (
      t.0,
      (
        at,
        (
          t.1.0,
          (
            told_as (part_faults s at st is) (part_faults s at begun t.0) (st.named + entries_in is) (begun.named + entries_in t.0) r (sym t.1.1.0) t.1.1.1 h.0,
            (omega (arith, all.more, all.each, h.1.0), omega (arith, all.each, h.1.1, t.1.1.1)),
          ),
        ),
      ),
    )))

-- judged from the first partition on
pub judges_first : (ahead : Ahead) (old : Coming) (b : Ground) (st : Reached) (before behind : ℕ) (r : Result ℕ JudgeError) → st ≡ start
    → Through ahead st (λ outs. JudgesOn old (subject_with b outs) st before behind r) → Through ahead start (λ outs. Judges old (subject_with b outs) before behind r)
judges_first ahead old b st before behind r e told =
    through_as ahead start (λ outs. JudgesOn old (subject_with b outs) start before behind r) (λ outs. Judges old (subject_with b outs) before behind r)
    (subst (λ (w : Reached). Through ahead w (λ outs. JudgesOn old (subject_with b outs) w before behind r)) e told)
    (λ outs j. (let is : List Item = j.0 in
    let fs = part_faults (subject_with b outs) j.1.0 start is in
    let n : start.named + entries_in is ≡ entries_in is = omega arith in
    (is, (j.1.0, (j.1.1.0, (told_as fs fs (start.named + entries_in is) (entries_in is) r refl n j.1.1.1.0, j.1.1.1.1))))))

-- ---- borders

-- before the first partition nothing is remembered
pub at_start : (b : Border) → at_border b ≡ start → behind_entries b 0 ≡ start
at_start b e = ap (λ (w : Reached). record w { named = 0 }) e

pub start_small : (b : Border) → at_border b ≡ start → IsSmall b
start_small b e = record { next = omega (arith, ap (λ (w : Reached). w.next) e); group = omega (arith, ap (λ (w : Reached). w.group) e) }

pub room_behind : (b : Border) (named n : ℕ) (st : Reached) → IsSmall b → named ≤ 2 ^ 63 → n < 2 ^ 63 → st ≡ behind_entries b named → Room st n (2 ^ 64 - 1)
room_behind b named n st small few less e =
    subst (λ (w : Reached). Room w n (2 ^ 64 - 1)) (sym e)
    (record { next = omega (arith, small.next, less); group = omega (arith, small.group, less); entry = omega (arith, less); named = omega (arith, few, less); values = omega (arith, less) })
