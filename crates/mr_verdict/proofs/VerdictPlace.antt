-- The verdict is the fault before the partitions, else that of the least partition that has one, else that behind them.
use Rattle.std.proofs.Common.{◌≡◌, ℕ, zero, suc, ◌+◌, ◌-◌, ◌≤◌, Bool, true, false, Option, Some, None, List, [], ◌∷◌, ◌++◌, length, refl, ap, sym, ◌∙◌, subst, arith, nat_le, ◌==◌, append_assoc}
use Rattle.std.proofs.lemmas.Bool.{false≢true}
use Rattle.std.proofs.lemmas.List.{append-nil}
use Rattle.mr_bytes.specs.declared.Name.{Name}
use Rattle.mr_bytes.specs.declared.RecordName.{RecordName}
use Rattle.mr_bytes.specs.declared.Value.{Value}
use Rattle.mr_splits.specs.Named.{named_records}
use Rattle.mr_splits.specs.Cut.{is_record}
use Rattle.mr_certform.specs.declared.grammar_state.Item.{Item}
use Rattle.mr_certform.specs.declared.grammar_state.Item.TheVariants.{Magic, Job, Flags, LiteralLength, LiteralByte, Parts, SplitSize, Files, FileLength, Skips, Skip, Groups, Entries, Entry, End}
use Rattle.mr_certform.specs.declared.grammar_state.GrammarState.{GrammarState}
use Rattle.mr_certform.specs.declared.grammar_state.GrammarState.TheVariants.{AtMagic, AtSkips, AtGroups, AtEntries, AtEntry, AtEnd, Behind}
use Rattle.mr_certform.specs.Grammar.{MayStand, InOrder}
use Rattle.mr_certform.specs.Places as Places
use Rattle.mr_certform.specs.Spelling.{items_of, is_ended}
use Rattle.mr_certform.proofs.Walks.{read_front}
use Rattle.mr_bytes.specs.Pairs.{Triple}
use Rattle.mr_sequential.specs.Good.{named}
use Rattle.mr_splits.specs.Kept.{is_past}
use Rattle.mr_verdict.specs.declared.answers.No.{No}
use Rattle.mr_verdict.specs.declared.answers.No.TheVariants as Fault
use Rattle.mr_verdict.specs.Verdict.{WalkCase, Reached, Subject, passes, start, tests, after, part_faults, subject_of, last_of, skip_faults, count_faults, item_eq, job_wanted, input_wanted, wanted_faults, faults, Accepted, accepted_by, told_by, case_of, verdict_of, order_tests, with_entry, entry_tests, group_tests, behind_group, after_entry, first, entries_in}
use Rattle.mr_verdict.specs.VerdictLaws.{told, or_else, fault_of, skips_in, piece, parts_in, front_skips, front_count, front_faults, part_fault, least_fault, back_fault, FaultByPlace}
use Rattle.mr_verdict.proofs.VerdictHeader.{AreEqual, eq_is, equal_job, equal_input}

-- ---- first of all

or_assoc : (a b c : Option No) → or_else (or_else a b) c ≡ or_else a (or_else b c)
or_assoc None b c = refl
or_assoc (Some f) b c = refl

first_append : (xs ys : List No) → first (xs ++ ys) ≡ or_else (first xs) (first ys)
first_append [] ys = refl
first_append (x ∷ xs) ys = refl

-- behind the same tests
first_same : (ts xs ys : List No) (o : Option No) → first xs ≡ or_else (first ys) o → first (ts ++ xs) ≡ or_else (first (ts ++ ys)) o
first_same [] xs ys o e = e
first_same (t ∷ ts) xs ys o e = refl

-- ---- what of the state before a partition doesn't bear on it

module _ (s : Subject) where
  -- the same, but for how many entries there were
  abbrev counting : Reached → ℕ → Reached
  counting st k = record st { named = k }

  group_counting : (p : ℕ) (st : Reached) (k m : ℕ) → group_tests s p (counting st k) m ≡ group_tests s p st m
  group_counting p st k zero = refl
  group_counting p st k (suc m) = refl

  behind_counting : (st : Reached) (k m : ℕ) → behind_group s (counting st k) m ≡ counting (behind_group s st m) k
  behind_counting st k zero = refl
  behind_counting st k (suc m) = refl

  with_counting : (st : Reached) (t : Triple) (k e : ℕ) → with_entry (counting st k) t e ≡ counting (with_entry st t e) (k + 1)
  with_counting st t k zero = refl
  with_counting st t k (suc e) = refl

  order_counting : (p : ℕ) (st : Reached) (n : Name) (key : List ℕ) (k e : ℕ) → order_tests s.rules.part p (counting st k) n key e ≡ order_tests s.rules.part p st n key e
  order_counting p st n key k zero = refl
  order_counting p st n key k (suc e) = refl

  entry_counting : (p : ℕ) (st : Reached) (n : Name) (o : Option Triple) (k : ℕ) → entry_tests s p (counting st k) n o ≡ entry_tests s p st n o
  entry_counting p st n None k = refl
  entry_counting p st n (Some t) k =
      ap (λ w. w ++ group_tests s p (with_entry (counting st k) t st.entry) (st.entries - 1)) (order_counting p st n t.key k st.entry)
      ∙ ap (λ w. order_tests s.rules.part p st n t.key st.entry ++ w)
      (ap (λ (w : Reached). group_tests s p w (st.entries - 1)) (with_counting st t k st.entry) ∙ group_counting p (with_entry st t st.entry) (k + 1) (st.entries - 1))

  after_counting : (st : Reached) (o : Option Triple) (k : ℕ) → (j : ℕ) × (after_entry s (counting st k) o ≡ counting (after_entry s st o) j)
  after_counting st None k = (k, refl)
  after_counting st (Some t) k = (k + 1, ap (λ (w : Reached). behind_group s w (st.entries - 1)) (with_counting st t k st.entry) ∙ behind_counting (with_entry st t st.entry) (k + 1) (st.entries - 1))

  -- no item of a partition's piece tells of it
  told_counting : (is : List Item) (st : Reached) (k : ℕ) → told s (counting st k) (piece is) ≡ told s st (piece is)
  told_counting [] st k = refl
  told_counting (Groups n ∷ is) st k = refl
  told_counting (End ∷ is) st k = refl
  told_counting (Entry n ∷ is) st k =
      let moved = after_counting st (named s.triples n) k in
      ap (λ w. w ++ told s (after s (counting st k) (Entry n)) (piece is)) (entry_counting (st.next - 1) st n (named s.triples n) k)
      ∙ ap (λ w. tests s st (Entry n) ++ w) (ap (λ (w : Reached). told s w (piece is)) moved.1 ∙ told_counting is (after s st (Entry n)) moved.0)
  told_counting (Entries n ∷ is) st k = told_counting is (after s st (Entries n)) k
  told_counting (i ∷ is) st k = told_counting is st k

  -- what the first entry of a group forgets
  abbrev other : Reached → List ℕ → Name → List Value → ℕ → Reached
  other st key before values k = record st { key = key; before = before; values = values; named = k }

  first_entry : (p : ℕ) (st : Reached) (n : Name) (key : List ℕ) (before : Name) (values : List Value) (k : ℕ) (o : Option Triple) → st.entry ≡ 0
      → entry_tests s p (other st key before values k) n o ≡ entry_tests s p st n o
  first_entry p st n key before values k None h = refl
  first_entry p st n key before values k (Some t) h =
      ap (λ e. order_tests s.rules.part p (other st key before values k) n t.key e ++ group_tests s p (with_entry (other st key before values k) t e) (st.entries - 1)) h
      ∙ (ap (λ w. order_tests s.rules.part p st n t.key 0 ++ w) (group_counting p (with_entry st t 0) (k + 1) (st.entries - 1))
      ∙ ap (λ e. order_tests s.rules.part p st n t.key e ++ group_tests s p (with_entry st t e) (st.entries - 1)) (sym h))

  -- behind a first entry nothing is left of it; where there is no such pair a fault was told
  first_after : (st : Reached) (key : List ℕ) (before : Name) (values : List Value) (k : ℕ) (t : Triple) → st.entry ≡ 0
      → after_entry s (other st key before values k) (Some t) ≡ counting (after_entry s st (Some t)) (k + 1)
  first_after st key before values k t h =
      ap (λ e. behind_group s (with_entry (other st key before values k) t e) (st.entries - 1)) h
      ∙ (behind_counting (with_entry st t 0) (k + 1) (st.entries - 1)
      ∙ ap (λ e. counting (behind_group s (with_entry st t e) (st.entries - 1)) (k + 1)) (sym h))

  first_told : (p : ℕ) (st : Reached) (n : Name) (is : List Item) (key : List ℕ) (before : Name) (values : List Value) (k : ℕ) (o : Option Triple) → st.entry ≡ 0
      → first (entry_tests s p (other st key before values k) n o ++ told s (after_entry s (other st key before values k) o) (piece is)) ≡ first (entry_tests s p st n o ++ told s (after_entry s st o) (piece is))
  first_told p st n is key before values k None h = refl
  first_told p st n is key before values k (Some t) h =
      ap (λ w. first (w ++ told s (after_entry s (other st key before values k) (Some t)) (piece is))) (first_entry p st n key before values k (Some t) h)
      ∙ ap (λ w. first (entry_tests s p st n (Some t) ++ w))
      (ap (λ (w : Reached). told s w (piece is)) (first_after st key before values k t h) ∙ told_counting is (after_entry s st (Some t)) (k + 1))

  -- a partition's first fault is told by its own items
  abbrev alone : ℕ → Reached
  alone p = record start { next = p }

  -- behind the number of groups there comes a number of entries, and behind that an entry
  in_place : (g r : ℕ) (st : Reached) (is : List Item) → InOrder (Places.groups r g) is
      → first (told s st (piece is)) ≡ first (told s (record (alone st.next) { groups = st.groups; group = st.group; key_before = st.key_before; from = st.from }) (piece is))
  in_place zero zero st [] h = refl
  in_place zero zero st (i ∷ is) h = ended i is h.0
    where
      ended : (i : Item) (is : List Item) → MayStand AtEnd i
          → first (told s st (piece (i ∷ is))) ≡ first (told s (record (alone st.next) { groups = st.groups; group = st.group; key_before = st.key_before; from = st.from }) (piece (i ∷ is)))
      ended End is h = refl
      ended _ is h = absurd h
  in_place zero (suc r) st [] h = refl
  in_place zero (suc r) st (i ∷ is) h = opens i is h.0
    where
      opens : (i : Item) (is : List Item) → MayStand (AtGroups r) i
          → first (told s st (piece (i ∷ is))) ≡ first (told s (record (alone st.next) { groups = st.groups; group = st.group; key_before = st.key_before; from = st.from }) (piece (i ∷ is)))
      opens (Groups n) is h = refl
      opens _ is h = absurd h
  in_place (suc g) r st [] h = refl
  in_place (suc g) r st (i ∷ is) h = counts i is h
    where
      entry : (m : ℕ) (i : Item) (is : List Item) → MayStand (AtEntry r g m Places.first_name) i → (n : ℕ)
          → first (told s (record st { entries = n; entry = 0 }) (piece (i ∷ is)))
          ≡ first (told s (record (alone st.next) { groups = st.groups; group = st.group; key_before = st.key_before; from = st.from; entries = n; entry = 0 }) (piece (i ∷ is)))
      entry m (Entry name) is h n =
          first_told (st.next - 1) (record (alone st.next) { groups = st.groups; group = st.group; key_before = st.key_before; from = st.from; entries = n; entry = 0 }) name is st.key st.before st.values st.named (named s.triples name) refl
      entry m _ is h n = absurd h

      more : (m : ℕ) (is : List Item) → 1 ≤ m → InOrder (Places.entries r g m Places.first_name) is
          → first (told s (record st { entries = m; entry = 0 }) (piece is))
          ≡ first (told s (record (alone st.next) { groups = st.groups; group = st.group; key_before = st.key_before; from = st.from; entries = m; entry = 0 }) (piece is))
      more zero is some h = absurd (omega arith)
      more (suc m) [] some h = refl
      more (suc m) (i ∷ is) some h = entry m i is h.0 (suc m)

      counts : (i : Item) (is : List Item) → InOrder (AtEntries r g) (i ∷ is)
          → first (told s st (piece (i ∷ is))) ≡ first (told s (record (alone st.next) { groups = st.groups; group = st.group; key_before = st.key_before; from = st.from }) (piece (i ∷ is)))
      counts (Entries m) is h = more m is h.0.0 h.1
      counts _ is h = absurd h.0

  by_itself : (p : GrammarState) (n : ℕ) (is : List Item) (st : Reached) → InOrder p (Groups n ∷ is) → first (told s st (Groups n ∷ piece is)) ≡ part_fault s st.next (Groups n ∷ piece is)
  by_itself p n is st h = at p h
    where
      at : (p : GrammarState) → InOrder p (Groups n ∷ is) → first (told s st (Groups n ∷ piece is)) ≡ part_fault s st.next (Groups n ∷ piece is)
      at (AtGroups r) h =
          first_append (tests s st (Groups n)) (told s (after s st (Groups n)) (piece is))
          ∙ (ap (or_else (first (tests s st (Groups n)))) (in_place n r (after s st (Groups n)) is h.1)
          ∙ sym (first_append (tests s st (Groups n)) (told s (record (alone (st.next + 1)) { groups = n; group = 0; key_before = None; from = 0 }) (piece is))))
      at _ h = absurd h.0

  -- ---- all partitions

  next_of_group : (st : Reached) (m : ℕ) → (behind_group s st m).next ≡ st.next
  next_of_group st zero = refl
  next_of_group st (suc m) = refl

  named_of_group : (st : Reached) (m : ℕ) → (behind_group s st m).named ≡ st.named
  named_of_group st zero = refl
  named_of_group st (suc m) = refl

  next_of_entry : (st : Reached) (o : Option Triple) → (after_entry s st o).next ≡ st.next
  next_of_entry st None = refl
  next_of_entry st (Some t) = next_of_group (with_entry st t st.entry) (st.entries - 1) ∙ with_next st.entry
    where
      with_next : (e : ℕ) → (with_entry st t e).next ≡ st.next
      with_next zero = refl
      with_next (suc e) = refl

  -- an entry of which nothing is told counts
  named_of_entry : (p : ℕ) (st : Reached) (n : Name) (o : Option Triple) → entry_tests s p st n o ≡ [] → (after_entry s st o).named ≡ st.named + 1
  named_of_entry p st n None h = absurd (cc)
  named_of_entry p st n (Some t) h = named_of_group (with_entry st t st.entry) (st.entries - 1) ∙ with_named st.entry
    where
      with_named : (e : ℕ) → (with_entry st t e).named ≡ st.named + 1
      with_named zero = refl
      with_named (suc e) = refl

  -- the faults of the partitions, the next being the one that the state tells, and of what is behind them
  abbrev later : Reached → ℕ → List Item → Option No
  later st at is = or_else (least_fault s st.next (parts_in is)) (back_fault s at (st.named + entries_in is) (is_ended is))

  -- what is to be shown of items, behind such a state
  abbrev Splits : ℕ → Reached → List Item → Type 0
  Splits at st is = first (part_faults s at st is) ≡ or_else (first (told s st (piece is))) (later st at is)

  -- an item that only counts or says nothing
  quiet : (at : ℕ) (st new : Reached) (is : List Item) → new.next ≡ st.next → new.named ≡ st.named → Splits at new is
      → first (part_faults s at new is) ≡ or_else (first (told s new (piece is))) (later st at is)
  quiet at st new is next named h =
      h ∙ ap (or_else (first (told s new (piece is)))) (ap (λ k. or_else (least_fault s k (parts_in is)) (back_fault s at (new.named + entries_in is) (is_ended is))) next
      ∙ ap (λ k. or_else (least_fault s st.next (parts_in is)) (back_fault s at (k + entries_in is) (is_ended is))) named)

  an_entry : (at : ℕ) (st : Reached) (n : Name) (is : List Item) → Splits at (after s st (Entry n)) is → Splits at st (Entry n ∷ is)
  an_entry at st n is h = by (tests s st (Entry n)) refl
    where
      by : (ts : List No) → tests s st (Entry n) ≡ ts
          → first (ts ++ part_faults s at (after s st (Entry n)) is) ≡ or_else (first (ts ++ told s (after s st (Entry n)) (piece is))) (later st at (Entry n ∷ is))
      by (t ∷ ts) e = refl
      by [] e =
          let next : (after s st (Entry n)).next ≡ st.next = next_of_entry st (named s.triples n) in
          let one : (after s st (Entry n)).named ≡ st.named + 1 = named_of_entry (st.next - 1) st n (named s.triples n) e in
          let count : (after s st (Entry n)).named + entries_in is ≡ st.named + (entries_in is + 1) = omega (arith, one) in
          h ∙ ap (or_else (first (told s (after s st (Entry n)) (piece is))))
          (ap (λ k. or_else (least_fault s k (parts_in is)) (back_fault s at ((after s st (Entry n)).named + entries_in is) (is_ended is))) next
          ∙ ap (λ k. or_else (least_fault s st.next (parts_in is)) (back_fault s at k (is_ended is))) count)

  a_part : (p : GrammarState) (at n : ℕ) (st : Reached) (is : List Item) → InOrder p (Groups n ∷ is) → Splits at (after s st (Groups n)) is → Splits at st (Groups n ∷ is)
  a_part p at n st is h rest =
      let new : Reached = after s st (Groups n) in
      let tested : List No = tests s st (Groups n) in
      let own : List No = told s (after s st (Groups n)) (piece is) in
      first_append tested (part_faults s at new is)
      ∙ (ap (or_else (first tested)) rest
      ∙ (sym (or_assoc (first tested) (first own) (later new at is))
      ∙ (ap (λ o. or_else o (later new at is)) (sym (first_append tested own) ∙ by_itself p n is st h)
      ∙ sym (or_assoc (part_fault s st.next (Groups n ∷ piece is)) (least_fault s (st.next + 1) (parts_in is)) (back_fault s at (st.named + entries_in is) (is_ended is))))))

  nothing_behind : (p : GrammarState) (is : List Item) → InOrder p (End ∷ is) → is ≡ []
  nothing_behind p is h = at p is h
    where
      none : (is : List Item) → InOrder Behind is → is ≡ []
      none [] h = refl
      none (i ∷ is) h = absurd h.0

      at : (p : GrammarState) (is : List Item) → InOrder p (End ∷ is) → is ≡ []
      at AtEnd is h = none is h.1
      at _ is h = absurd h.0

  the_end : (at : ℕ) (st : Reached) → Splits at st (End ∷ [])
  the_end at st = let none : st.named ≡ st.named + 0 = omega arith in ap (λ k. back_fault s at k true) none

  pub splits : (p : GrammarState) (at : ℕ) (st : Reached) (is : List Item) → InOrder p is → Splits at st is
  splits p at st [] h = refl
  splits p at st (End ∷ is) h = subst (λ w. Splits at st (End ∷ w)) (sym (nothing_behind p is h)) (the_end at st)
  splits p at st (Groups n ∷ is) h = a_part p at n st is h (splits (Places.behind p (Groups n)) at (after s st (Groups n)) is h.1)
  splits p at st (Entry n ∷ is) h = an_entry at st n is (splits (Places.behind p (Entry n)) at (after s st (Entry n)) is h.1)
  splits p at st (Entries n ∷ is) h = quiet at st (after s st (Entries n)) is refl refl (splits (Places.behind p (Entries n)) at (after s st (Entries n)) is h.1)
  splits p at st (i ∷ is) h = splits (Places.behind p i) at st is h.1

-- ---- what stands before the partitions

-- the faults of the partitions, and behind them
abbrev rest_of : WalkCase → List RecordName → List Item → Option No
rest_of c skips is = or_else (least_fault (subject_of c skips) 0 (parts_in is)) (back_fault (subject_of c skips) c.stop (entries_in is) (is_ended is))

abbrev SkipsSplit : WalkCase → List RecordName → List Item → Type 0
SkipsSplit c done is = first (skip_faults c done is) ≡ or_else (first (front_skips c done is)) (rest_of c (done ++ skips_in is) is)

from_start : (c : WalkCase) (p : GrammarState) (done : List RecordName) (is : List Item) → InOrder p is → piece is ≡ [] → skips_in is ≡ []
    → first (part_faults (subject_of c done) c.stop start is) ≡ rest_of c (done ++ skips_in is) is
from_start c p done is h no_items no_skips =
    let count : 0 + entries_in is ≡ entries_in is = omega arith in
    let same : done ≡ done ++ skips_in is = sym (append-nil done) ∙ ap (λ w. done ++ w) (sym no_skips) in
    splits (subject_of c done) p c.stop start is h
    ∙ (ap (λ w. or_else (first (told (subject_of c done) start w)) (or_else (least_fault (subject_of c done) 0 (parts_in is)) (back_fault (subject_of c done) c.stop (0 + entries_in is) (is_ended is)))) no_items
    ∙ (ap (λ k. or_else (least_fault (subject_of c done) 0 (parts_in is)) (back_fault (subject_of c done) c.stop k (is_ended is))) count
    ∙ ap (λ w. rest_of c w is) same))

skips_split : (c : WalkCase) (r n : ℕ) (done : List RecordName) (is : List Item) → InOrder (Places.skips r n) is → SkipsSplit c done is
skips_split c r n done [] h = refl
skips_split c zero zero done (i ∷ is) h = ends i is h
  where
    ends : (i : Item) (is : List Item) → InOrder AtEnd (i ∷ is) → SkipsSplit c done (i ∷ is)
    ends End is h = from_start c AtEnd done (End ∷ is) h refl (ap skips_in (nothing_behind (subject_of c done) AtEnd is h))
    ends _ is h = absurd h.0
skips_split c (suc r) zero done (i ∷ is) h = opens i is h
  where
    opens : (i : Item) (is : List Item) → InOrder (AtGroups r) (i ∷ is) → SkipsSplit c done (i ∷ is)
    opens (Groups n) is h = from_start c (AtGroups r) done (Groups n ∷ is) h refl refl
    opens _ is h = absurd h.0
skips_split c r (suc n) done (Skip s ∷ is) h =
    first_same (passes (is_past (last_of done) s) (Fault.SkipOrder (length done)) ++ passes (is_record (named_records c.request.split c.files) s) (Fault.NoSuchRecord (length done)))
    (skip_faults c (done ++ s ∷ []) is) (front_skips c (done ++ s ∷ []) is) (rest_of c (done ++ s ∷ skips_in is) is)
    (skips_split c r n (done ++ s ∷ []) is h.1 ∙ ap (λ w. or_else (first (front_skips c (done ++ s ∷ []) is)) (rest_of c w is)) (append_assoc done (s ∷ []) (skips_in is)))
skips_split c r (suc n) done (i ∷ is) h = absurd h.0

abbrev CountSplits : WalkCase → List Item → Type 0
CountSplits c is = first (count_faults c is) ≡ or_else (first (front_count c is)) (rest_of c (skips_in is) is)

count_splits : (c : WalkCase) (p : GrammarState) (is : List Item) → InOrder p is → CountSplits c is
count_splits c p [] h = refl
count_splits c p (Skips n ∷ is) h = at p h
  where
    at : (p : GrammarState) → InOrder p (Skips n ∷ is) → CountSplits c (Skips n ∷ is)
    at (AtSkips r) h =
        first_same (passes (nat_le n c.request.skips) (Fault.TooManySkips n)) (skip_faults c [] is) (front_skips c [] is) (rest_of c (skips_in is) is) (skips_split c r n [] is h.1)
    at _ h = absurd h.0
count_splits c p (i ∷ is) h = refl

wanted_split : (c : WalkCase) (wanted : List Item) (fault : No) (a b : List Item → List No) (is : List Item) (o : Option No)
    → ((rest : List Item) → is ≡ wanted ++ rest → first (a rest) ≡ or_else (first (b rest)) o)
    → first (wanted_faults c wanted fault a is) ≡ or_else (first (wanted_faults c wanted fault b is)) o
wanted_split c [] fault a b is o f = f is refl
wanted_split c (w ∷ wanted) fault a b [] o f = refl
wanted_split c (w ∷ wanted) fault a b (i ∷ is) o f = by (item_eq i w) refl (λ g. wanted_split c wanted fault a b is o g)
  where
    by : (t : Bool) → item_eq i w ≡ t
        → (((rest : List Item) → is ≡ wanted ++ rest → first (a rest) ≡ or_else (first (b rest)) o) → first (wanted_faults c wanted fault a is) ≡ or_else (first (wanted_faults c wanted fault b is)) o)
        → first (passes t fault ++ wanted_faults c wanted fault a is) ≡ or_else (first (passes t fault ++ wanted_faults c wanted fault b is)) o
    by true e rec_ = rec_ (λ rest same. f rest (cc (eq_is i w e, same)))
    by false e rec_ = refl

-- the wanted items tell of no left-out record, partition or entry
through : (c : WalkCase) (ws is : List Item) → AreEqual ws → rest_of c (skips_in (ws ++ is)) (ws ++ is) ≡ rest_of c (skips_in is) is
through c [] is h = refl
through c (Magic ∷ ws) is h = through c ws is h.1
through c (Job m ∷ ws) is h = through c ws is h.1
through c (Flags m ∷ ws) is h = through c ws is h.1
through c (LiteralLength m ∷ ws) is h = through c ws is h.1
through c (LiteralByte m ∷ ws) is h = through c ws is h.1
through c (Parts m ∷ ws) is h = through c ws is h.1
through c (SplitSize m ∷ ws) is h = through c ws is h.1
through c (Files m ∷ ws) is h = through c ws is h.1
through c (FileLength m ∷ ws) is h = through c ws is h.1
through c (w ∷ ws) is h = absurd (false≢true h.0)

order_behind : (p : GrammarState) (is js : List Item) → InOrder p (is ++ js) → (q : GrammarState) × InOrder q js
order_behind p [] js h = (p, h)
order_behind p (i ∷ is) js h = order_behind (Places.behind p i) is js h.1

all_split : (c : WalkCase) (is : List Item) → InOrder AtMagic is → first (faults c is) ≡ or_else (first (front_faults c is)) (rest_of c (skips_in is) is)
all_split c is h =
    first_same (passes (length c.outputs == c.request.parts) Fault.OutputCount)
    (wanted_faults c (job_wanted c.request) Fault.OtherJob (wanted_faults c (input_wanted c.files) Fault.OtherInput (count_faults c)) is)
    (wanted_faults c (job_wanted c.request) Fault.OtherJob (wanted_faults c (input_wanted c.files) Fault.OtherInput (front_count c)) is)
    (rest_of c (skips_in is) is)
    (wanted_split c (job_wanted c.request) Fault.OtherJob (wanted_faults c (input_wanted c.files) Fault.OtherInput (count_faults c)) (wanted_faults c (input_wanted c.files) Fault.OtherInput (front_count c)) is (rest_of c (skips_in is) is)
    (λ job same.
    wanted_split c (input_wanted c.files) Fault.OtherInput (count_faults c) (front_count c) job (rest_of c (skips_in is) is)
    (λ input again.
    let whole : is ≡ job_wanted c.request ++ (input_wanted c.files ++ input) = same ∙ ap (λ w. job_wanted c.request ++ w) again in
    let behind_job = order_behind AtMagic (job_wanted c.request) (input_wanted c.files ++ input) (subst (InOrder AtMagic) whole h) in
    let behind_input = order_behind behind_job.0 (input_wanted c.files) input behind_job.1 in
    let rest : rest_of c (skips_in is) is ≡ rest_of c (skips_in input) input =
    ap (λ w. rest_of c (skips_in w) w) whole ∙ (through c (job_wanted c.request) (input_wanted c.files ++ input) (equal_job c.request) ∙ through c (input_wanted c.files) input (equal_input c.files)) in
    count_splits c behind_input.0 input behind_input.1 ∙ ap (or_else (first (front_count c input))) (sym rest))))

fault_told : (faults : List No) (a : Accepted) → fault_of (told_by faults a) ≡ first faults
fault_told [] a = refl
fault_told (f ∷ faults) a = refl

pub fault_by_place : FaultByPlace
unfolding verdict_of
fault_by_place request files outputs bytes are_bytes =
    fault_told (faults (case_of request files outputs bytes) (items_of bytes)) (accepted_by (record { skips = []; pairs = 0 }) (items_of bytes))
    ∙ all_split (case_of request files outputs bytes) (items_of bytes) ((read_front bytes are_bytes).0)
