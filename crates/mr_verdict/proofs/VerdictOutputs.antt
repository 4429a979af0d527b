-- No later byte of an output, and no other output, bears on a partition's fault.
use Rattle.std.proofs.Common.{◌≡◌, ℕ, zero, suc, ◌+◌, ◌-◌, ◌≤◌, Bool, true, false, Option, Some, None, Result, Err, List, [], ◌∷◌, ◌++◌, length, drop, refl, ap, sym, ◌∙◌, subst, inl, inr, ◌⊎◌, arith, nat_eq, nat_le, ◌==◌}
use Rattle.std.specs.List.{common_prefix_len}
use Rattle.mr_bytes.specs.declared.Name.{Name}
use Rattle.mr_input.specs.Files.{nth_file}
use Rattle.mr_certform.specs.declared.grammar_state.Item.{Item}
use Rattle.mr_certform.specs.declared.grammar_state.Item.TheVariants.{Skips, Skip, Groups, Entries, Entry, End}
use Rattle.mr_certform.specs.Spelling.{items_of, is_ended, stop}
use Rattle.mr_splits.specs.Kept.{is_past}
use Rattle.mr_bytes.specs.declared.RecordName.{RecordName}
use Rattle.mr_splits.specs.Named.{named_records}
use Rattle.mr_splits.specs.Cut.{is_record}
use Rattle.mr_bytes.specs.Pairs.{Triple}
use Rattle.mr_sequential.specs.Good.{named}
use Rattle.mr_verdict.specs.declared.answers.No.{No}
use Rattle.mr_verdict.specs.declared.answers.No.TheVariants as Fault
use Rattle.mr_verdict.specs.Verdict.{WalkCase, Reached, Subject, Accepted, passes, start, tests, after, last_of, item_eq, job_wanted, input_wanted, wanted_faults, faults, told_by, accepted_by, case_of, subject_of, verdict_of, text_tests, end_tests, order_tests, with_entry, entry_tests, group_tests, behind_group, after_entry, first, entries_in}
use Rattle.mr_verdict.specs.VerdictLaws.{told, piece, part_fault, before_fault, last_before, SameBy, SameFor, fault_of, or_else, skips_in, parts_in, front_skips, front_count, front_faults, least_fault, back_fault, SameInPart, SameFrom, SameUnless, OtherOutputsDontMatter, BytesBehindDontMatter, OnlyComparedMatters}
use Rattle.mr_verdict.proofs.VerdictPlace.{fault_by_place}
use Rattle.mr_verdict.proofs.VerdictTests.{none_left, none_right, none_both}
use Rattle.mr_verdict.proofs.VerdictCompared.{Tells, SameUpTo, text_again, text_fails, text_place, end_again, end_place, end_fails}

-- the tests of the same partition with other outputs
abbrev with : Subject → List (List ℕ) → Subject
with s others = record s { outputs = others }

module _ (s : Subject) (others : List (List ℕ)) where
  group_behind : (st : Reached) (m : ℕ) → behind_group (with s others) st m ≡ behind_group s st m
  group_behind st zero = refl
  group_behind st (suc m) = refl

  -- what is remembered doesn't hang on the outputs
  entry_after : (st : Reached) (o : Option Triple) → after_entry (with s others) st o ≡ after_entry s st o
  entry_after st None = refl
  entry_after st (Some t) = group_behind (with_entry st t st.entry) (st.entries - 1)

  group_same : (p : ℕ) (st : Reached) (m : ℕ) → nth_file others p ≡ nth_file s.outputs p → group_tests (with s others) p st m ≡ group_tests s p st m
  group_same p st zero e =
      ap (λ out. text_tests out p st.from (s.rules.text st.key st.values) ++ end_tests out p (st.groups - 1) (st.from + length (s.rules.text st.key st.values))) e
  group_same p st (suc m) e = refl

  entry_same : (p : ℕ) (st : Reached) (n : Name) (o : Option Triple) → nth_file others p ≡ nth_file s.outputs p → entry_tests (with s others) p st n o ≡ entry_tests s p st n o
  entry_same p st n None e = refl
  entry_same p st n (Some t) e = ap (λ w. order_tests s.rules.part p st n t.key st.entry ++ w) (group_same p (with_entry st t st.entry) (st.entries - 1) e)

  next_group : (st : Reached) (m : ℕ) → (behind_group s st m).next ≡ st.next
  next_group st zero = refl
  next_group st (suc m) = refl

  next_with : (st : Reached) (t : Triple) (e : ℕ) → (with_entry st t e).next ≡ st.next
  next_with st t zero = refl
  next_with st t (suc e) = refl

  pub next_entry : (st : Reached) (o : Option Triple) → (after_entry s st o).next ≡ st.next
  next_entry st None = refl
  next_entry st (Some t) = next_group (with_entry st t st.entry) (st.entries - 1) ∙ next_with st t st.entry

  told_same : (is : List Item) (st : Reached) → nth_file others (st.next - 1) ≡ nth_file s.outputs (st.next - 1) → told (with s others) st (piece is) ≡ told s st (piece is)
  told_same [] st e = refl
  told_same (Groups n ∷ is) st e = refl
  told_same (End ∷ is) st e = refl
  told_same (Entry n ∷ is) st e =
      let new : Reached = after s st (Entry n) in
      let next : new.next ≡ st.next = next_entry st (named s.triples n) in
      ap (λ w. w ++ told (with s others) (after (with s others) st (Entry n)) (piece is)) (entry_same (st.next - 1) st n (named s.triples n) e)
      ∙ ap (λ w. tests s st (Entry n) ++ w)
      (ap (λ (w : Reached). told (with s others) w (piece is)) (entry_after st (named s.triples n))
      ∙ told_same is (after s st (Entry n)) (subst (λ k. nth_file others (k - 1) ≡ nth_file s.outputs (k - 1)) (sym next) e))
  told_same (Entries n ∷ is) st e = told_same is (after s st (Entries n)) e
  told_same (i ∷ is) st e = told_same is st e

pub other_outputs_dont_matter : OtherOutputsDontMatter
other_outputs_dont_matter s others p n is e =
    let here : p ≡ p + 1 - 1 = omega arith in
    ap (λ out. first (end_tests out p n 0 ++ told (with s others) (after s (record start { next = p }) (Groups n)) (piece is))) e
    ∙ ap (λ w. first (end_tests (nth_file s.outputs p) p n 0 ++ w)) (told_same s others is (after s (record start { next = p }) (Groups n)) (subst (λ k. nth_file others k ≡ nth_file s.outputs k) here e))

-- ---- no byte behind the place of the fault

-- behind the same tests
same_tests : (fault : No) (ts xs ys : List No) → (Tells fault xs → Tells fault ys) → Tells fault (ts ++ xs) → Tells fault (ts ++ ys)
same_tests fault [] xs ys f h = f h
same_tests fault (t ∷ ts) xs ys f h = h

-- it isn't told of an output
abbrev NotOfOutput : No → Type 0
NotOfOutput (Fault.OutputDiffers p at) = ⊥
NotOfOutput fault = Unit {0}

one_fault : (b : Bool) (p at : ℕ) (fault : No) → NotOfOutput fault → Tells fault (passes b (Fault.OutputDiffers p at)) → ⊥
one_fault true p at fault n e = cc
one_fault false p at fault n e = by fault n e
  where
    by : (f : No) → NotOfOutput f → Tells f (Fault.OutputDiffers p at ∷ []) → ⊥
    by (Fault.OutputDiffers q k) n e = n
    by _ n e = cc

end_fault : (output : List ℕ) (p groups from : ℕ) (fault : No) → NotOfOutput fault → Tells fault (end_tests output p groups from) → ⊥
end_fault output p zero from fault n e = one_fault (nat_le (length output) from) p from fault n e
end_fault output p (suc groups) from fault n e = cc

-- two tests that aren't of an output
two_faults : (q at : ℕ) (a b : Bool) (f g : No) → NotOfOutput f → NotOfOutput g → Tells (Fault.OutputDiffers q at) (passes a f ++ passes b g) → ⊥
two_faults q at true true f g m n e = cc
two_faults q at true false f g m n e = another g n e
  where
    another : (g : No) → NotOfOutput g → Tells (Fault.OutputDiffers q at) (g ∷ []) → ⊥
    another (Fault.OutputDiffers p k) n e = n
    another _ n e = cc
two_faults q at false b f g m n e = another f m e
  where
    another : (f : No) → NotOfOutput f → Tells (Fault.OutputDiffers q at) (f ∷ passes b g) → ⊥
    another (Fault.OutputDiffers p k) n e = n
    another _ n e = cc

front : (fault : No) (xs ys : List No) → Tells fault xs → Tells fault (xs ++ ys)
front fault [] ys e = absurd (cc)
front fault (x ∷ xs) ys e = e

-- the first of two lists of faults that has one tells the fault
either : (fault : No) (xs ys : List No) → Tells fault (xs ++ ys) → Tells fault xs ⊎ ((xs ≡ []) × Tells fault ys)
either fault [] ys e = inr (refl, e)
either fault (x ∷ xs) ys e = inl e

module _ (s : Subject) (others : List (List ℕ)) where
  abbrev text_at : Reached → List ℕ
  text_at st = s.rules.text st.key st.values

  abbrev texts : ℕ → Reached → List No
  texts p st = text_tests (nth_file s.outputs p) p st.from (text_at st)

  abbrev ends : ℕ → Reached → List No
  ends p st = end_tests (nth_file s.outputs p) p (st.groups - 1) (st.from + length (text_at st))

  group_fault : (p : ℕ) (st : Reached) (m : ℕ) (fault : No) → NotOfOutput fault → Tells fault (group_tests s p st m) → ⊥
  group_fault p st zero fault n e =
      elim (either fault (texts p st) (ends p st) e) [
        | inl a ↦ one_fault (common_prefix_len nat_eq (text_at st) (drop st.from (nth_file s.outputs p)) == length (text_at st)) p (st.from + common_prefix_len nat_eq (text_at st) (drop st.from (nth_file s.outputs p))) fault n a
        | inr b ↦ end_fault (nth_file s.outputs p) p (st.groups - 1) (st.from + length (text_at st)) fault n b.1
      ]
  group_fault p st (suc m) fault n e = cc

  -- ---- where an output differs

  module _ (q at : ℕ) where
    abbrev Differs : List No → Type 0
    Differs faults = Tells (Fault.OutputDiffers q at) faults

    group_place : (p : ℕ) (st : Reached) (m : ℕ) → Differs (group_tests s p st m) → st.from ≤ at
    group_place p st zero e =
        elim (either (Fault.OutputDiffers q at) (texts p st) (ends p st) e) [
          | inl a ↦ text_place (nth_file s.outputs p) p st.from (text_at st) q at a
          | inr b ↦ (let place : st.from + length (text_at st) ≡ at = end_place (nth_file s.outputs p) p (st.groups - 1) (st.from + length (text_at st)) q at b.1 in omega arith)
        ]
    group_place p st (suc m) e = absurd (cc)

    group_fails : (p : ℕ) (st : Reached) (m : ℕ) → SameUpTo (at + 1) (nth_file s.outputs p) (nth_file others p) → Differs (group_tests s p st m) → Differs (group_tests (with s others) p st m)
    group_fails p st zero same e =
        elim (either (Fault.OutputDiffers q at) (texts p st) (ends p st) e) [
          | inl a ↦
              (let again : text_tests (nth_file others p) p st.from (text_at st) ≡ texts p st = text_fails (nth_file s.outputs p) (nth_file others p) p st.from (text_at st) q at a same in
              subst (λ w. Differs (w ++ end_tests (nth_file others p) p (st.groups - 1) (st.from + length (text_at st)))) (sym again)
              (front (Fault.OutputDiffers q at) (texts p st) (end_tests (nth_file others p) p (st.groups - 1) (st.from + length (text_at st))) a))
          | inr b ↦
              (let place : st.from + length (text_at st) ≡ at = end_place (nth_file s.outputs p) p (st.groups - 1) (st.from + length (text_at st)) q at b.1 in
              let again : text_tests (nth_file others p) p st.from (text_at st) ≡ [] = text_again (nth_file s.outputs p) (nth_file others p) p st.from (at + 1) (text_at st) (omega arith) same b.0 in
              let ended : end_tests (nth_file others p) p (st.groups - 1) (st.from + length (text_at st)) ≡ ends p st = end_fails (nth_file s.outputs p) (nth_file others p) p (st.groups - 1) (st.from + length (text_at st)) q at b.1 same in
              subst (λ w. Differs (w ++ end_tests (nth_file others p) p (st.groups - 1) (st.from + length (text_at st)))) (sym again) (subst Differs (sym ended) b.1))
        ]
    group_fails p st (suc m) same e = absurd (cc)

    group_passes : (p : ℕ) (st : Reached) (m : ℕ) → SameUpTo (at + 1) (nth_file s.outputs p) (nth_file others p) → (behind_group s st m).from ≤ at → group_tests s p st m ≡ [] → group_tests (with s others) p st m ≡ []
    group_passes p st zero same h e =
        none_both (text_tests (nth_file others p) p st.from (text_at st)) (end_tests (nth_file others p) p (st.groups - 1) (st.from + length (text_at st)))
        (text_again (nth_file s.outputs p) (nth_file others p) p st.from (at + 1) (text_at st) (omega (arith, h)) same (none_left (texts p st) (ends p st) e))
        (end_again (nth_file s.outputs p) (nth_file others p) p (st.groups - 1) (st.from + length (text_at st)) at h same (none_right (texts p st) (ends p st) e))
    group_passes p st (suc m) same h e = refl

    from_with : (st : Reached) (t : Triple) (e : ℕ) → (with_entry st t e).from ≡ st.from
    from_with st t zero = refl
    from_with st t (suc e) = refl

    from_group : (st : Reached) (m : ℕ) → st.from ≤ (behind_group s st m).from
    from_group st zero = omega arith
    from_group st (suc m) = omega arith

    from_entry : (st : Reached) (o : Option Triple) → st.from ≤ (after_entry s st o).from
    from_entry st None = omega arith
    from_entry st (Some t) = omega (arith, from_group (with_entry st t st.entry) (st.entries - 1), from_with st t st.entry)

    order_fault : (p : ℕ) (st : Reached) (n : Name) (key : List ℕ) (e : ℕ) → Differs (order_tests s.rules.part p st n key e) → ⊥
    order_fault p st n key zero d = two_faults q at _ _ _ _ tt tt d
    order_fault p st n key (suc e) d = two_faults q at _ _ _ _ tt tt d

    entry_place : (p : ℕ) (st : Reached) (n : Name) (o : Option Triple) → Differs (entry_tests s p st n o) → st.from ≤ at
    entry_place p st n None e = absurd (cc)
    entry_place p st n (Some t) e =
        elim (either (Fault.OutputDiffers q at) (order_tests s.rules.part p st n t.key st.entry) (group_tests s p (with_entry st t st.entry) (st.entries - 1)) e) [
          | inl a ↦ absurd (order_fault p st n t.key st.entry a)
          | inr b ↦ omega (arith, group_place p (with_entry st t st.entry) (st.entries - 1) b.1, from_with st t st.entry)
        ]

    entry_fails : (p : ℕ) (st : Reached) (n : Name) (o : Option Triple) → SameUpTo (at + 1) (nth_file s.outputs p) (nth_file others p) → Differs (entry_tests s p st n o) → Differs (entry_tests (with s others) p st n o)
    entry_fails p st n None same e = e
    entry_fails p st n (Some t) same e =
        same_tests (Fault.OutputDiffers q at) (order_tests s.rules.part p st n t.key st.entry) (group_tests s p (with_entry st t st.entry) (st.entries - 1)) (group_tests (with s others) p (with_entry st t st.entry) (st.entries - 1))
        (group_fails p (with_entry st t st.entry) (st.entries - 1) same) e

    entry_passes : (p : ℕ) (st : Reached) (n : Name) (o : Option Triple) → SameUpTo (at + 1) (nth_file s.outputs p) (nth_file others p) → (after_entry s st o).from ≤ at → entry_tests s p st n o ≡ [] → entry_tests (with s others) p st n o ≡ []
    entry_passes p st n None same h e = e
    entry_passes p st n (Some t) same h e =
        none_both (order_tests s.rules.part p st n t.key st.entry) (group_tests (with s others) p (with_entry st t st.entry) (st.entries - 1))
        (none_left (order_tests s.rules.part p st n t.key st.entry) (group_tests s p (with_entry st t st.entry) (st.entries - 1)) e)
        (group_passes p (with_entry st t st.entry) (st.entries - 1) same h (none_right (order_tests s.rules.part p st n t.key st.entry) (group_tests s p (with_entry st t st.entry) (st.entries - 1)) e))

    -- what was compared lies before the place
    told_place : (is : List Item) (st : Reached) → Differs (told s st (piece is)) → st.from ≤ at
    told_place [] st e = absurd (cc)
    told_place (Groups n ∷ is) st e = absurd (cc)
    told_place (End ∷ is) st e = absurd (cc)
    told_place (Entry n ∷ is) st e =
        elim (either (Fault.OutputDiffers q at) (tests s st (Entry n)) (told s (after s st (Entry n)) (piece is)) e) [
          | inl a ↦ entry_place (st.next - 1) st n (named s.triples n) a
          | inr b ↦ omega (arith, told_place is (after s st (Entry n)) b.1, from_entry st (named s.triples n))
        ]
    told_place (Entries n ∷ is) st e = told_place is (after s st (Entries n)) e
    told_place (i ∷ is) st e = told_place is st e

    told_fails : (is : List Item) (st : Reached) → SameUpTo (at + 1) (nth_file s.outputs (st.next - 1)) (nth_file others (st.next - 1)) → Differs (told s st (piece is)) → Differs (told (with s others) st (piece is))
    told_fails [] st same e = e
    told_fails (Groups n ∷ is) st same e = e
    told_fails (End ∷ is) st same e = e
    told_fails (Entry n ∷ is) st same e =
        let moved : after (with s others) st (Entry n) ≡ after s st (Entry n) = entry_after s others st (named s.triples n) in
        let next : (after s st (Entry n)).next ≡ st.next = next_entry s others st (named s.triples n) in
        elim (either (Fault.OutputDiffers q at) (tests s st (Entry n)) (told s (after s st (Entry n)) (piece is)) e) [
          | inl a ↦ front (Fault.OutputDiffers q at) (tests (with s others) st (Entry n)) (told (with s others) (after (with s others) st (Entry n)) (piece is)) (entry_fails (st.next - 1) st n (named s.triples n) same a)
          | inr b ↦
              (let passes_ = entry_passes (st.next - 1) st n (named s.triples n) same (told_place is (after s st (Entry n)) b.1) b.0 in
              let rest = told_fails is (after s st (Entry n)) (subst (λ k. SameUpTo (at + 1) (nth_file s.outputs (k - 1)) (nth_file others (k - 1))) (sym next) same) b.1 in
              subst (λ w. Differs (w ++ told (with s others) (after (with s others) st (Entry n)) (piece is))) (sym passes_)
              (subst (λ (w : Reached). Differs (told (with s others) w (piece is))) (sym moved) rest))
        ]
    told_fails (Entries n ∷ is) st same e = told_fails is (after s st (Entries n)) same e
    told_fails (i ∷ is) st same e = told_fails is st same e

  -- ---- any other fault

  -- where the last group has come no more of it comes
  groups_of_group : (st : Reached) (m : ℕ) → st.groups ≡ 0 → (behind_group s st m).groups ≡ 0
  groups_of_group st zero h = omega arith
  groups_of_group st (suc m) h = h

  groups_of_with : (st : Reached) (t : Triple) (e : ℕ) → (with_entry st t e).groups ≡ st.groups
  groups_of_with st t zero = refl
  groups_of_with st t (suc e) = refl

  groups_of_entry : (st : Reached) (o : Option Triple) → st.groups ≡ 0 → (after_entry s st o).groups ≡ 0
  groups_of_entry st None h = h
  groups_of_entry st (Some t) h = groups_of_group (with_entry st t st.entry) (st.entries - 1) (groups_of_with st t st.entry ∙ h)

  from_of_with : (st : Reached) (t : Triple) (e : ℕ) → (with_entry st t e).from ≡ st.from
  from_of_with st t zero = refl
  from_of_with st t (suc e) = refl

  from_of_group : (st : Reached) (m : ℕ) → st.from ≤ (behind_group s st m).from
  from_of_group st zero = omega arith
  from_of_group st (suc m) = omega arith

  from_of_entry : (st : Reached) (o : Option Triple) → st.from ≤ (after_entry s st o).from
  from_of_entry st None = omega arith
  from_of_entry st (Some t) = omega (arith, from_of_group (with_entry st t st.entry) (st.entries - 1), from_of_with st t st.entry)

  record IsLater (old new : Reached) : Type 0 where
    from : old.from ≤ new.from
    groups : old.groups ≡ 0 → new.groups ≡ 0

  fault_later : (is : List Item) (st : Reached) → IsLater st (before_fault s st (piece is))
  fault_later [] st = record { from = omega arith; groups = λ h. h }
  fault_later (Groups n ∷ is) st = record { from = omega arith; groups = λ h. h }
  fault_later (End ∷ is) st = record { from = omega arith; groups = λ h. h }
  fault_later (Entry n ∷ is) st = by (tests s st (Entry n)) (fault_later is (after s st (Entry n)))
    where
      by : (ts : List No) → IsLater (after s st (Entry n)) (before_fault s (after s st (Entry n)) (piece is)) → IsLater st (last_before ts st (before_fault s (after s st (Entry n)) (piece is)))
      by [] h = record { from = omega (arith, h.from, from_of_entry st (named s.triples n)); groups = λ g. h.groups (groups_of_entry st (named s.triples n) g) }
      by (t ∷ ts) h = record { from = omega arith; groups = λ g. g }
  fault_later (Entries n ∷ is) st = let h = fault_later is (after s st (Entries n)) in record { from = h.from; groups = h.groups }
  fault_later (i ∷ is) st = fault_later is st

  none_by : (p : ℕ) (st : Reached) (m groups from : ℕ) → SameBy groups from (nth_file s.outputs p) (nth_file others p) → (behind_group s st m).from ≤ from → ((behind_group s st m).groups ≡ 0 → groups ≡ 0)
      → group_tests s p st m ≡ [] → group_tests (with s others) p st m ≡ []
  none_by p st m zero from same h g e = group_same s others p st m same ∙ e
  none_by p st (suc m) (suc groups) from same h g e = refl
  none_by p st zero (suc groups) from same h g e =
      none_both (text_tests (nth_file others p) p st.from (text_at st)) (end_tests (nth_file others p) p (st.groups - 1) (st.from + length (text_at st)))
      (text_again (nth_file s.outputs p) (nth_file others p) p st.from from (text_at st) h same (none_left (texts p st) (ends p st) e))
      (more (st.groups - 1) refl)
    where
      more : (k : ℕ) → st.groups - 1 ≡ k → end_tests (nth_file others p) p k (st.from + length (text_at st)) ≡ []
      more zero is = let none : suc groups ≡ 0 = g is in absurd (omega arith)
      more (suc k) is = refl

  entry_by : (p : ℕ) (st : Reached) (n : Name) (o : Option Triple) (groups from : ℕ) → SameBy groups from (nth_file s.outputs p) (nth_file others p) → (after_entry s st o).from ≤ from → ((after_entry s st o).groups ≡ 0 → groups ≡ 0)
      → entry_tests s p st n o ≡ [] → entry_tests (with s others) p st n o ≡ []
  entry_by p st n None groups from same h g e = e
  entry_by p st n (Some t) groups from same h g e =
      none_both (order_tests s.rules.part p st n t.key st.entry) (group_tests (with s others) p (with_entry st t st.entry) (st.entries - 1))
      (none_left (order_tests s.rules.part p st n t.key st.entry) (group_tests s p (with_entry st t st.entry) (st.entries - 1)) e)
      (none_by p (with_entry st t st.entry) (st.entries - 1) groups from same h g (none_right (order_tests s.rules.part p st n t.key st.entry) (group_tests s p (with_entry st t st.entry) (st.entries - 1)) e))

  module _ (fault : No) (not_output : NotOfOutput fault) where
    entry_other : (p : ℕ) (st : Reached) (n : Name) (o : Option Triple) → Tells fault (entry_tests s p st n o) → Tells fault (entry_tests (with s others) p st n o)
    entry_other p st n None e = e
    entry_other p st n (Some t) e =
        elim (either fault (order_tests s.rules.part p st n t.key st.entry) (group_tests s p (with_entry st t st.entry) (st.entries - 1)) e) [
          | inl a ↦ front fault (order_tests s.rules.part p st n t.key st.entry) (group_tests (with s others) p (with_entry st t st.entry) (st.entries - 1)) a
          | inr b ↦ absurd (group_fault p (with_entry st t st.entry) (st.entries - 1) fault not_output b.1)
        ]

    abbrev SameAt : Reached → Reached → Type 0
    SameAt st last = SameBy last.groups last.from (nth_file s.outputs (st.next - 1)) (nth_file others (st.next - 1))

    told_other : (is : List Item) (st : Reached) → SameAt st (before_fault s st (piece is)) → Tells fault (told s st (piece is)) → Tells fault (told (with s others) st (piece is))
    told_other [] st same e = e
    told_other (Groups n ∷ is) st same e = e
    told_other (End ∷ is) st same e = e
    told_other (Entry n ∷ is) st same e =
        let last : Reached = before_fault s (after s st (Entry n)) (piece is) in
        let moved : after (with s others) st (Entry n) ≡ after s st (Entry n) = entry_after s others st (named s.triples n) in
        let next : (after s st (Entry n)).next ≡ st.next = next_entry s others st (named s.triples n) in
        elim (either fault (tests s st (Entry n)) (told s (after s st (Entry n)) (piece is)) e) [
          | inl a ↦ front fault (tests (with s others) st (Entry n)) (told (with s others) (after (with s others) st (Entry n)) (piece is)) (entry_other (st.next - 1) st n (named s.triples n) a)
          | inr b ↦
              (let here : SameAt st (before_fault s (after s st (Entry n)) (piece is)) = subst (λ ts. SameAt st (last_before ts st (before_fault s (after s st (Entry n)) (piece is)))) b.0 same in
              let later = fault_later is (after s st (Entry n)) in
              let none = entry_by (st.next - 1) st n (named s.triples n) last.groups last.from here later.from later.groups b.0 in
              let there : SameAt (after s st (Entry n)) (before_fault s (after s st (Entry n)) (piece is)) = subst (λ k. SameBy last.groups last.from (nth_file s.outputs (k - 1)) (nth_file others (k - 1))) (sym next) here in
              let rest = told_other is (after s st (Entry n)) there b.1 in
              subst (λ w. Tells fault (w ++ told (with s others) (after (with s others) st (Entry n)) (piece is))) (sym none)
              (subst (λ (w : Reached). Tells fault (told (with s others) w (piece is))) (sym moved) rest))
        ]
    told_other (Entries n ∷ is) st same e = told_other is (after s st (Entries n)) same e
    told_other (i ∷ is) st same e = told_other is st same e

  abbrev SameBehind : Reached → Reached → Type 0
  SameBehind st last = SameBy last.groups last.from (nth_file s.outputs (st.next - 1)) (nth_file others (st.next - 1))

  -- where nothing is told
  told_none : (is : List Item) (st : Reached) → SameBehind st (before_fault s st (piece is)) → told s st (piece is) ≡ [] → told (with s others) st (piece is) ≡ []
  told_none [] st same e = refl
  told_none (Groups n ∷ is) st same e = refl
  told_none (End ∷ is) st same e = refl
  told_none (Entry n ∷ is) st same e =
      let last : Reached = before_fault s (after s st (Entry n)) (piece is) in
      let moved : after (with s others) st (Entry n) ≡ after s st (Entry n) = entry_after s others st (named s.triples n) in
      let next : (after s st (Entry n)).next ≡ st.next = next_entry s others st (named s.triples n) in
      let tested = none_left (tests s st (Entry n)) (told s (after s st (Entry n)) (piece is)) e in
      let here : SameBehind st (before_fault s (after s st (Entry n)) (piece is)) = subst (λ ts. SameBehind st (last_before ts st (before_fault s (after s st (Entry n)) (piece is)))) tested same in
      let later = fault_later is (after s st (Entry n)) in
      let none = entry_by (st.next - 1) st n (named s.triples n) last.groups last.from here later.from later.groups tested in
      let there : SameBehind (after s st (Entry n)) (before_fault s (after s st (Entry n)) (piece is)) = subst (λ k. SameBy last.groups last.from (nth_file s.outputs (k - 1)) (nth_file others (k - 1))) (sym next) here in
      let rest = told_none is (after s st (Entry n)) there (none_right (tests s st (Entry n)) (told s (after s st (Entry n)) (piece is)) e) in
      none_both (tests (with s others) st (Entry n)) (told (with s others) (after (with s others) st (Entry n)) (piece is)) none (ap (λ (w : Reached). told (with s others) w (piece is)) moved ∙ rest)
  told_none (Entries n ∷ is) st same e = told_none is (after s st (Entries n)) same e
  told_none (i ∷ is) st same e = told_none is st same e

-- ---- a partition

abbrev opened : ℕ → ℕ → Reached
opened p n = record start { next = p + 1; groups = n; group = 0; key_before = None; from = 0 }

here_is : (p : ℕ) → p ≡ p + 1 - 1
here_is p = omega arith

part_differs : (s : Subject) (others : List (List ℕ)) (p n : ℕ) (is : List Item) (q at : ℕ) → SameUpTo (at + 1) (nth_file s.outputs p) (nth_file others p)
    → Tells (Fault.OutputDiffers q at) (end_tests (nth_file s.outputs p) p n 0 ++ told s (opened p n) (piece is))
    → Tells (Fault.OutputDiffers q at) (end_tests (nth_file others p) p n 0 ++ told (with s others) (opened p n) (piece is))
part_differs s others p n is q at same e =
    elim (either (Fault.OutputDiffers q at) (end_tests (nth_file s.outputs p) p n 0) (told s (opened p n) (piece is)) e) [
      | inl a ↦
          (let again : end_tests (nth_file others p) p n 0 ≡ end_tests (nth_file s.outputs p) p n 0 = end_fails (nth_file s.outputs p) (nth_file others p) p n 0 q at a same in
          subst (λ w. Tells (Fault.OutputDiffers q at) (w ++ told (with s others) (opened p n) (piece is))) (sym again)
          (front (Fault.OutputDiffers q at) (end_tests (nth_file s.outputs p) p n 0) (told (with s others) (opened p n) (piece is)) a))
      | inr b ↦
          (let none : end_tests (nth_file others p) p n 0 ≡ [] = end_again (nth_file s.outputs p) (nth_file others p) p n 0 at (omega arith) same b.0 in
          let rest = told_fails s others q at is (opened p n) (subst (λ k. SameUpTo (at + 1) (nth_file s.outputs k) (nth_file others k)) (here_is p) same) b.1 in
          subst (λ w. Tells (Fault.OutputDiffers q at) (w ++ told (with s others) (opened p n) (piece is))) (sym none) rest)
    ]

-- the state in which the first fault of a partition is told
abbrev last_of_part : Subject → ℕ → ℕ → List Item → Reached
last_of_part s p n is = last_before (end_tests (nth_file s.outputs p) p n 0) (record start { next = p }) (before_fault s (opened p n) (piece is))

-- a partition of no group ends where it did
ended : (s : Subject) (others : List (List ℕ)) (p n groups from : ℕ) → (n ≡ 0 → groups ≡ 0) → SameBy groups from (nth_file s.outputs p) (nth_file others p)
    → end_tests (nth_file s.outputs p) p n 0 ≡ [] → end_tests (nth_file others p) p n 0 ≡ []
ended s others p (suc n) groups from g same e = refl
ended s others p zero groups from g same e =
    let whole : nth_file others p ≡ nth_file s.outputs p = subst (λ w. SameBy w from (nth_file s.outputs p) (nth_file others p)) (g refl) same in
    ap (λ out. end_tests out p zero 0) whole ∙ e

-- where nothing is told before its items
record IsOpened (s : Subject) (others : List (List ℕ)) (p n : ℕ) (is : List Item) : Type 0 where
  none : end_tests (nth_file others p) p n 0 ≡ []
  same : (let last = before_fault s (opened p n) (piece is) in SameBy last.groups last.from (nth_file s.outputs (p + 1 - 1)) (nth_file others (p + 1 - 1)))

is_opened : (s : Subject) (others : List (List ℕ)) (p n : ℕ) (is : List Item) → (let last = last_of_part s p n is in SameBy last.groups last.from (nth_file s.outputs p) (nth_file others p))
    → end_tests (nth_file s.outputs p) p n 0 ≡ [] → IsOpened s others p n is
is_opened s others p n is same e =
    let last : Reached = before_fault s (opened p n) (piece is) in
    let here : SameBy last.groups last.from (nth_file s.outputs p) (nth_file others p) =
    subst (λ ts. (let w = last_before ts (record start { next = p }) (before_fault s (opened p n) (piece is)) in SameBy w.groups w.from (nth_file s.outputs p) (nth_file others p))) e same in
    record {
      none = ended s others p n last.groups last.from (fault_later s others is (opened p n)).groups here e;
      same = subst (λ k. SameBy last.groups last.from (nth_file s.outputs k) (nth_file others k)) (here_is p) here;
    }

part_other : (s : Subject) (others : List (List ℕ)) (p n : ℕ) (is : List Item) (fault : No) → NotOfOutput fault
    → (let last = last_of_part s p n is in SameBy last.groups last.from (nth_file s.outputs p) (nth_file others p))
    → Tells fault (end_tests (nth_file s.outputs p) p n 0 ++ told s (opened p n) (piece is))
    → Tells fault (end_tests (nth_file others p) p n 0 ++ told (with s others) (opened p n) (piece is))
part_other s others p n is fault not_output same e =
    elim (either fault (end_tests (nth_file s.outputs p) p n 0) (told s (opened p n) (piece is)) e) [
      | inl a ↦ absurd (end_fault (nth_file s.outputs p) p n 0 fault not_output a)
      | inr b ↦
          (let open_ = is_opened s others p n is same b.0 in
          subst (λ w. Tells fault (w ++ told (with s others) (opened p n) (piece is))) (sym open_.none) (told_other s others fault not_output is (opened p n) open_.same b.1))
    ]

part_none : (s : Subject) (others : List (List ℕ)) (p n : ℕ) (is : List Item)
    → (let last = last_of_part s p n is in SameBy last.groups last.from (nth_file s.outputs p) (nth_file others p))
    → end_tests (nth_file s.outputs p) p n 0 ++ told s (opened p n) (piece is) ≡ []
    → end_tests (nth_file others p) p n 0 ++ told (with s others) (opened p n) (piece is) ≡ []
part_none s others p n is same e =
    let open_ = is_opened s others p n is same (none_left (end_tests (nth_file s.outputs p) p n 0) (told s (opened p n) (piece is)) e) in
    none_both (end_tests (nth_file others p) p n 0) (told (with s others) (opened p n) (piece is)) open_.none
    (told_none s others is (opened p n) open_.same (none_right (end_tests (nth_file s.outputs p) p n 0) (told s (opened p n) (piece is)) e))

pub bytes_behind_dont_matter : BytesBehindDontMatter
bytes_behind_dont_matter s others p n is fault e same = by fault same e
  where
    by : (fault : No) → SameFor fault (before_fault s (record start { next = p }) (Groups n ∷ piece is)) (nth_file s.outputs p) (nth_file others p)
        → part_fault s p (Groups n ∷ piece is) ≡ Some fault → part_fault (with s others) p (Groups n ∷ piece is) ≡ Some fault
    by (Fault.OutputDiffers q at) same e = part_differs s others p n is q at same e
    by fault same e = part_other s others p n is fault tt same e

-- ---- the verdict

first_none : (faults : List No) → ◌≡◌ {A = Option No} (first faults) None → faults ≡ []
first_none [] e = refl
first_none (f ∷ faults) e = absurd (cc)

least_same : (s : Subject) (others : List (List ℕ)) (is : List Item) (p : ℕ) → SameFrom s p (parts_in is) others → least_fault (with s others) p (parts_in is) ≡ least_fault s p (parts_in is)
least_same s others [] p same = refl
least_same s others (Groups n ∷ is) p same = by (part_fault s p (Groups n ∷ piece is)) refl same (least_same s others is (p + 1))
  where
    by : (o : Option No) → part_fault s p (Groups n ∷ piece is) ≡ o
        → SameInPart o (before_fault s (record start { next = p }) (Groups n ∷ piece is)) (nth_file s.outputs p) (nth_file others p) (SameFrom s (p + 1) (parts_in is) others)
        → (SameFrom s (p + 1) (parts_in is) others → least_fault (with s others) (p + 1) (parts_in is) ≡ least_fault s (p + 1) (parts_in is))
        → or_else (part_fault (with s others) p (Groups n ∷ piece is)) (least_fault (with s others) (p + 1) (parts_in is)) ≡ or_else (part_fault s p (Groups n ∷ piece is)) (least_fault s (p + 1) (parts_in is))
    by (Some fault) e same rest =
        let there = bytes_behind_dont_matter s others p n is fault e same in
        ap (λ o. or_else o (least_fault (with s others) (p + 1) (parts_in is))) there ∙ ap (λ o. or_else o (least_fault s (p + 1) (parts_in is))) (sym e)
    by None e same rest =
        let none : end_tests (nth_file s.outputs p) p n 0 ++ told s (opened p n) (piece is) ≡ [] = first_none _ e in
        let there = part_none s others p n is same.0 none in
        ap (λ w. or_else (first w) (least_fault (with s others) (p + 1) (parts_in is))) there
        ∙ (rest same.1 ∙ ap (λ o. or_else o (least_fault s (p + 1) (parts_in is))) (sym e))
least_same s others (i ∷ is) p same = least_same s others is p same

-- verdicts that tell one fault, or none, and of one certificate, are one
one_verdict : (xs ys : List No) (a : Accepted) → fault_of (told_by xs a) ≡ fault_of (told_by ys a) → told_by xs a ≡ told_by ys a
one_verdict [] [] a e = refl
one_verdict [] (y ∷ ys) a e = absurd (cc)
one_verdict (x ∷ xs) [] a e = absurd (cc)
one_verdict (x ∷ xs) (y ∷ ys) a e = let same : x ≡ y = cc in ap (λ (w : No). let it : Result Accepted No = Err w in it) same

front_same : (c : WalkCase) (others : List (List ℕ)) (is : List Item) → length others ≡ length c.outputs → front_faults (record c { outputs = others }) is ≡ front_faults c is
front_same c others is e =
    ap (λ (n : ℕ). passes (n == c.request.parts) Fault.OutputCount ++ wanted_faults (record c { outputs = others }) (job_wanted c.request) Fault.OtherJob (wanted_faults (record c { outputs = others }) (input_wanted c.files) Fault.OtherInput (front_count (record c { outputs = others }))) is) e
    ∙ ap (λ w. passes (length c.outputs == c.request.parts) Fault.OutputCount ++ w)
    (wanted_same (job_wanted c.request) Fault.OtherJob (wanted_faults (record c { outputs = others }) (input_wanted c.files) Fault.OtherInput (front_count (record c { outputs = others }))) (wanted_faults c (input_wanted c.files) Fault.OtherInput (front_count c))
    (wanted_same (input_wanted c.files) Fault.OtherInput (front_count (record c { outputs = others })) (front_count c) count_same) is)
  where
    skips_same : (done : List RecordName) (is : List Item) → front_skips (record c { outputs = others }) done is ≡ front_skips c done is
    skips_same done [] = refl
    skips_same done (Skip s ∷ is) =
        ap (λ w. (passes (is_past (last_of done) s) (Fault.SkipOrder (length done)) ++ passes (is_record (named_records c.request.split c.files) s) (Fault.NoSuchRecord (length done))) ++ w) (skips_same (done ++ s ∷ []) is)
    skips_same done (i ∷ is) = refl

    count_same : (is : List Item) → front_count (record c { outputs = others }) is ≡ front_count c is
    count_same [] = refl
    count_same (Skips n ∷ is) = ap (λ w. passes (nat_le n c.request.skips) (Fault.TooManySkips n) ++ w) (skips_same [] is)
    count_same (i ∷ is) = refl

    wanted_same : (wanted : List Item) (fault : No) (a b : List Item → List No) → ((is : List Item) → a is ≡ b is) → (is : List Item)
        → wanted_faults (record c { outputs = others }) wanted fault a is ≡ wanted_faults c wanted fault b is
    wanted_same [] fault a b same is = same is
    wanted_same (w ∷ wanted) fault a b same [] = refl
    wanted_same (w ∷ wanted) fault a b same (i ∷ is) = ap (λ ts. passes (item_eq i w) fault ++ ts) (wanted_same wanted fault a b same is)

back_same : (s : Subject) (others : List (List ℕ)) (at n : ℕ) (b : Bool) → back_fault (with s others) at n b ≡ back_fault s at n b
back_same s others at n true = refl
back_same s others at n false = refl

pub only_compared_matters : OnlyComparedMatters
unfolding verdict_of
only_compared_matters request files outputs others bytes are_bytes long same =
    let is : List Item = items_of bytes in
    let s : Subject = subject_of (case_of request files outputs bytes) (skips_in (items_of bytes)) in
    one_verdict (faults (case_of request files others bytes) (items_of bytes)) (faults (case_of request files outputs bytes) (items_of bytes)) (accepted_by (record { skips = []; pairs = 0 }) (items_of bytes))
    (fault_by_place request files others bytes are_bytes
    ∙ (ap (λ w. or_else (first w) (or_else (least_fault (with s others) 0 (parts_in is)) (back_fault (with s others) (stop bytes) (entries_in is) (is_ended is)))) (front_same (case_of request files outputs bytes) others (items_of bytes) long)
    ∙ (behind_front (first (front_faults (case_of request files outputs bytes) (items_of bytes))) (least_fault (with s others) 0 (parts_in is)) (least_fault s 0 (parts_in is)) (back_fault (with s others) (stop bytes) (entries_in is) (is_ended is)) (back_fault s (stop bytes) (entries_in is) (is_ended is))
    (SameFrom s 0 (parts_in is) others) (least_same s others (items_of bytes) 0) (back_same s others (stop bytes) (entries_in is) (is_ended is)) same
    ∙ sym (fault_by_place request files outputs bytes are_bytes))))
  where
    behind_front : (o a b d e : Option No) (Same : Type 0) → (Same → a ≡ b) → d ≡ e → SameUnless o Same → or_else o (or_else a d) ≡ or_else o (or_else b e)
    behind_front (Some fault) a b d e Same f g same = refl
    behind_front None a b d e Same f g same = λ i. or_else (f same i) (g i)
