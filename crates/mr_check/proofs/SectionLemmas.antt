-- Sections that are walked each by itself.
use Rattle.std.proofs.Common.{◌≡◌, ℕ, zero, suc, ◌+◌, ◌≤◌, Option, Some, None, MatchResult, Result, Ok, Err, List, [], ◌∷◌, drop, length, refl, ap, sym, ◌∙◌, subst, arith}
use Rattle.std.specs.Prelude.{IfOk, IfSome}
use Rattle.std.proofs.lemmas.List.{drop-drop}
use Rattle.mr_certform.specs.declared.grammar_state.Item.{Item}
use Rattle.mr_certform.specs.declared.grammar_state.Item.TheVariants.{Entry, End}
use Rattle.mr_certform.specs.Rows.{entries_ahead, behind_entries}
use Rattle.mr_certform.specs.Spelling.{left_behind}
use Rattle.mr_certform.specs.Walking.{items_left, halt}
use Rattle.mr_certform.specs.declared.walker.Walker.{Walker}
use Rattle.mr_verdict.specs.Verdict.{Reached, Subject, start, entries_in, first, part_faults}
use Rattle.mr_verdict.specs.declared.answers.No.{No}
use Rattle.mr_verdict.specs.Steps.{Answers, Known, subject}
use Rattle.mr_judge.specs.Borders.{at_border, behind_entries as behind_named}
use Rattle.mr_judge.specs.declared.border.Border.{Border}
use Rattle.mr_check.specs.declared.section.Section.{Section}
use Rattle.mr_check.specs.declared.walk.Came.{Came}
use Rattle.mr_check.specs.declared.walk.Came.TheVariants.{To, ToEnd, Nowhere}
use Rattle.mr_check.specs.declared.walk.Walk.{Walk}
use Rattle.mr_verdict.specs.Items.{Coming}
use Rattle.mr_check.specs.declared.walk.Walked.{Walked}
use Rattle.mr_check.specs.Claims.{claims_of}
use Rattle.mr_check.specs.Sections.{AllPass, AreJudged, CameTo, IsAt, IsSection, IsWalked, JoinedTo, end_tests}
use Rattle.mr_check.specs.Walk.{HoldsFor, Passed, Takes, named_more}
use Rattle.mr_check.specs.Accepted.{stopped}
use Rattle.mr_judge.specs.Outputs.{IsTold}
use Rattle.mr_judge.proofs.Faults.{told_is}
use Rattle.mr_check.proofs.BorderLemmas.{faults_between}

-- ---- the walk that finds them

pub entries_dropped : (is : List Item) → behind_entries is ≡ drop (entries_ahead is) is
entries_dropped [] = refl
entries_dropped (Entry name ∷ is) = entries_dropped is ∙ ap (λ n. drop n (Entry name ∷ is)) (let e : suc (entries_ahead is) ≡ entries_ahead (Entry name ∷ is) = omega arith in e)
entries_dropped (i ∷ is) = refl

pub fewer_behind : (is : List Item) → length (behind_entries is) ≤ length is
fewer_behind [] = omega arith
fewer_behind (Entry name ∷ is) = omega (arith, fewer_behind is)
fewer_behind (i ∷ is) = omega arith

pub goes_on : (i : Item) (is js : List Item) → (i ≡ End → ⊥) → is ≡ i ∷ left_behind i js → is ≡ i ∷ js
goes_on End is js other h = absurd (other refl)
goes_on i is js other h = h

pub drop_on : {A : Type 0} (n m at : ℕ) (is js all : List A) → is ≡ drop at all → js ≡ drop n is → m ≡ at + n → js ≡ drop m all
drop_on n m at is js all e d s = d ∙ (ap (drop n) e ∙ (drop-drop n at all ∙ ap (λ k. drop k all) (sym s)))

-- ---- walks that fit together

came_as : (s : Subject) (is : List Item) (w : Walked) (came : Came) → w.came ≡ came → CameTo s is w w.came → CameTo s is w came
came_as s is w came e h = subst (CameTo s is w) e h

none_more : (n : ℕ) → n ≡ n + 0
none_more n = omega arith

-- one more is joined
pub joined_next : (k : Known) (all : Walker) (sec next : Section) (w : Walked) (from b : Border) (n m : ℕ) → IsAt all sec → IsSection all next → next.at ≡ sec.at + w.most → 1 ≤ next.at
    → w.came ≡ To b → IsWalked k (items_left sec.walker) w → HoldsFor k (claims_of w.claims) → at_border w.began ≡ at_border from → m ≡ n + w.named
    → JoinedTo (subject k) (items_left all) (items_left sec.walker) from n → JoinedTo (subject k) (items_left all) (items_left next.walker) b m
joined_next k all sec next w from b n m this is at past came walked holds same count joined =
    let s : Subject = subject k in
    let here : List Item = items_left sec.walker in
    let there : List Item = items_left next.walker in
    let t = came_as s here w (To b) came (walked holds) in
    let st : Reached = t.0 in
    let passed = t.1.1.1 in
    let behind : drop w.most here ≡ there = drop_on w.most next.at sec.at here (drop w.most here) (items_left all) this.left refl at ∙ sym is.here.left in
    record {
      faults = λ stop. joined.faults stop
          ∙ (ap (λ (v : Reached). part_faults s stop (record v { named = n }) here) (sym same)
          ∙ (ap (λ c. part_faults s stop (behind_named w.began c) here) (none_more n) ∙ passed.faults stop n
          ∙ (ap (λ (l : List Item). part_faults s stop (named_more n st) l) behind
          ∙ (faults_between s stop (named_more n st) there (is.begins past)
          ∙ (ap (λ (v : Reached). part_faults s stop (record v { named = n + st.named }) there) (sym t.1.0)
          ∙ ap (λ c. part_faults s stop (behind_named b c) there) (ap (λ c. n + c) (sym t.1.1.0) ∙ sym count))))));
      named = omega (arith, joined.named, passed.named, t.1.1.0, count, ap entries_in behind);
    }

-- the last one comes to the end
pub joined_end : (k : Known) (all : Walker) (is : List Item) (w : Walked) (from : Border) (n m : ℕ) → w.came ≡ ToEnd → IsWalked k is w → HoldsFor k (claims_of w.claims) → at_border w.began ≡ at_border from → m ≡ n + w.named
    → JoinedTo (subject k) (items_left all) is from n → AllPass (subject k) (items_left all) m
joined_end k all is w from n m came walked holds same count joined =
    let s : Subject = subject k in
    let t = came_as s is w ToEnd came (walked holds) in
    let passed = t.1.1 in
    record {
      faults = λ stop. joined.faults stop
          ∙ (ap (λ (v : Reached). part_faults s stop (record v { named = n }) is) (sym same)
          ∙ (ap (λ c. part_faults s stop (behind_named w.began c) is) (none_more n) ∙ passed.faults stop n ∙ ap (end_tests s) (ap (λ c. n + c) (sym t.1.0) ∙ sym count)));
      named = omega (arith, joined.named, passed.named, t.1.0, count);
    }

-- ---- one walk

passed_as : (s : Subject) (st to new : Reached) (is js left rest : List Item) → st ≡ to → is ≡ js → left ≡ rest → Passed s st new is left → Passed s to new js rest
passed_as s st to new is js left rest e d f h =
    subst (λ (w : List Item). Passed s to new js w) f (subst (λ (w : List Item). Passed s to new w left) d (subst (λ (w : Reached). Passed s w new is left) e h))

pub walked_from : (old new : Coming) (k : Known) (is js : List Item) (at : ℕ) (st : Reached) (b : Border) (w : Walk) (most : ℕ) (came : Came) → ((l : List Item) (n : ℕ) → old l n → l ≡ is) → new js at → st ≡ at_border b
    → Takes old new k st w most came → IsWalked k is (record { began = b; most = most; came = came; named = w.judging.named; claims = w.claims })
walked_from old new k is js at st b w most (To x) only there e t holds =
    let h = t.1 holds js at there in
    (w.judging, (t.0, (refl, passed_as (subject k) st (at_border b) w.judging h.0 is js (drop most is) e (only h.0 at h.1.0) (h.1.1.0 ∙ ap (drop most) (only h.0 at h.1.0)) h.1.1.1)))
walked_from old new k is js at st b w most ToEnd only there e t holds =
    let h = t holds in
    (w.judging, (refl, passed_as (subject k) st (at_border b) w.judging h.0 is (End ∷ []) (End ∷ []) e (only h.0 h.1.0 h.1.1.0) refl h.1.1.1))
walked_from old new k is js at st b w most Nowhere only there e t holds = tt

-- ---- all walks

pub ok_both : {A E : Type 0} (r : Result A E) (P Q R : A → Type 0) → ((a : A) → P a → Q a → R a) → IfOk r P → IfOk r Q → IfOk r R
ok_both (Ok a) P Q R f p q = f a p q
ok_both (Err e) P Q R f p q = tt

pub some_more : {A : Type 0} (r : Option A) (P Q : A → Type 0) → ((a : A) → P a → Q a) → IfSome r P → IfSome r Q
some_more (Some a) P Q f p = f a p
some_more None P Q f p = tt

pub some_at : (n : ℕ) → (n ≡ 0 → ⊥) → 1 ≤ n
some_at zero h = absurd (h refl)
some_at (suc n) h = omega arith

-- ---- answers

-- an answer on what is left behind a border is one on all
pub judged_behind : (k : Known) (all w : Walker) (b : Border) (n : ℕ) (answer : Result ℕ No) → halt w ≡ halt all → JoinedTo (subject k) (items_left all) (items_left w) b n
    → (let fs = part_faults (subject k) (halt w) (behind_named b n) (items_left w) in MatchResult answer (λ m. (first fs ≡ None) × (m ≡ n + entries_in (items_left w))) (Answers fs)) → AreJudged k all answer
judged_behind k all w b n (Ok m) stop joined h =
    (ap first (joined.faults (halt all)) ∙ (ap (λ at. first (part_faults (subject k) at (behind_named b n) (items_left w))) (sym stop) ∙ h.0), h.1 ∙ sym joined.named)
judged_behind k all w b n (Err e) stop joined h =
    told_is (part_faults (subject k) (halt w) (behind_named b n) (items_left w)) (part_faults (subject k) (halt all) start (items_left all)) e
    (ap first (joined.faults (halt all)) ∙ ap (λ at. first (part_faults (subject k) at (behind_named b n) (items_left w))) (sym stop)) h

-- and is told as the plain walk tells it
pub parts_told : (k : Known) (all : Walker) (answer : Result ℕ No) → AreJudged k all answer → IsTold (part_faults (subject k) (halt all) start (items_left all)) (entries_in (items_left all)) (stopped answer)
parts_told k all (Ok n) h = h
parts_told k all (Err e) h = h
