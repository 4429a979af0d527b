-- A row that brings the emitted pair of its name is judged as its item is, against all pairs.
use Rattle.std.proofs.Common.{◌≡◌, ℕ, zero, suc, ◌-◌, Option, Some, None, List, refl, ap, sym, ◌∙◌}
use Rattle.std.specs.Prelude.{MatchOption, Result}
use Rattle.std.specs.Option.{option_map}
use Rattle.mr_bytes.specs.declared.Name.{Name}
use Rattle.mr_bytes.specs.Pairs.{Triple}
use Rattle.mr_sequential.specs.Good.{named}
use Rattle.mr_certform.specs.declared.grammar_state.Item.{Item}
use Rattle.mr_certform.specs.declared.grammar_state.Item.TheVariants.{Entry, End}
use Rattle.mr_verdict.specs.Verdict.{Reached, with_entry, group_tests, behind_group, entry_tests, after_entry, tests, after}
use Rattle.mr_verdict.specs.Steps.{Ground, subject_with}
use Rattle.mr_judge.specs.declared.border.FoundItem.{FoundItem}
use Rattle.mr_verdict.specs.declared.items.JudgeError.{JudgeError}
use Rattle.mr_judge.specs.Outputs.{Ahead, Tested}
use Rattle.mr_judge.specs.Rows.{IsFound, row_subject, brought, item_tests, item_after, row_tests, row_after}
use Rattle.mr_judge.proofs.OutputLemmas.{tested_as}

mapped : {A : Type 0} (f : A → Triple) (o : Option A) (t : Option Triple) → MatchOption o (t ≡ None) (λ p. t ≡ Some (f p)) → option_map f o ≡ t
mapped f None t h = sym h
mapped f (Some p) t h = sym h

-- a row brings what is emitted under its name
pub brought_is : (ts : List Triple) (row : FoundItem) (name : Name) → IsFound ts row → row.item ≡ Entry name → brought name row ≡ named ts name
brought_is ts row name found e = mapped (λ p. record { key = p.0.now; value = p.1; name = name }) row.found (named ts name) (found name e)

-- ---- of the pairs, the tests of an entry read its own alone

group_same : (b : Ground) (outs : List (List ℕ)) (p : ℕ) (st : Reached) (k : ℕ) → group_tests (row_subject b.request outs) p st k ≡ group_tests (subject_with b outs) p st k
group_same b outs p st zero = refl
group_same b outs p st (suc k) = refl

behind_same : (b : Ground) (outs : List (List ℕ)) (st : Reached) (k : ℕ) → behind_group (row_subject b.request outs) st k ≡ behind_group (subject_with b outs) st k
behind_same b outs st zero = refl
behind_same b outs st (suc k) = refl

entry_same : (b : Ground) (outs : List (List ℕ)) (p : ℕ) (st : Reached) (name : Name) (o : Option Triple) → entry_tests (row_subject b.request outs) p st name o ≡ entry_tests (subject_with b outs) p st name o
entry_same b outs p st name None = refl
entry_same b outs p st name (Some t) = rw (group_same b outs p (with_entry st t st.entry) (st.entries - 1)) refl

after_same : (b : Ground) (outs : List (List ℕ)) (st : Reached) (o : Option Triple) → after_entry (row_subject b.request outs) st o ≡ after_entry (subject_with b outs) st o
after_same b outs st None = refl
after_same b outs st (Some t) = behind_same b outs (with_entry st t st.entry) (st.entries - 1)

-- ---- items

item_tests_are : (b : Ground) (outs : List (List ℕ)) (st : Reached) (row : FoundItem) (i : Item) → IsFound b.triples row → row.item ≡ i → (i ≡ End → ⊥) → item_tests (row_subject b.request outs) st row i ≡ tests (subject_with b outs) st i
item_tests_are b outs st row (Entry name) found e other =
    entry_same b outs (st.next - 1) st name (brought name row) ∙ ap (entry_tests (subject_with b outs) (st.next - 1) st name) (brought_is b.triples row name found e)
item_tests_are b outs st row End found e other = absurd (other refl)
item_tests_are b outs st row i found e other = refl

item_after_is : (b : Ground) (outs : List (List ℕ)) (st : Reached) (row : FoundItem) (i : Item) → IsFound b.triples row → row.item ≡ i → item_after (row_subject b.request outs) st row i ≡ after (subject_with b outs) st i
item_after_is b outs st row (Entry name) found e =
    after_same b outs st (brought name row) ∙ ap (after_entry (subject_with b outs) st) (brought_is b.triples row name found e)
item_after_is b outs st row i found e = refl

-- a row's tests are those of its item, but at the end
pub row_tests_are : (b : Ground) (outs : List (List ℕ)) (st : Reached) (row : FoundItem) → IsFound b.triples row → (row.item ≡ End → ⊥) → row_tests (row_subject b.request outs) st row ≡ tests (subject_with b outs) st row.item
row_tests_are b outs st row found other = item_tests_are b outs st row row.item found refl other

-- and so what is remembered behind it, at the end too
pub row_after_is : (b : Ground) (outs : List (List ℕ)) (st : Reached) (row : FoundItem) → IsFound b.triples row → row_after (row_subject b.request outs) st row ≡ after (subject_with b outs) st row.item
row_after_is b outs st row found = item_after_is b outs st row row.item found refl

-- what is said of a row is said of its item
pub tested_by_row : (b : Ground) (old new : Ahead) (st next : Reached) (row : FoundItem) (i : Item) (r : Result (Unit {0}) JudgeError) → IsFound b.triples row → row.item ≡ i → (i ≡ End → ⊥)
    → Tested old new st next (λ outs. row_tests (row_subject b.request outs) st row) (λ outs. row_after (row_subject b.request outs) st row) r
    → Tested old new st next (λ outs. tests (subject_with b outs) st i) (λ outs. after (subject_with b outs) st i) r
tested_by_row b old new st next row i r found is other told =
    tested_as old new st next (λ outs. row_tests (row_subject b.request outs) st row) (λ outs. tests (subject_with b outs) st i) (λ outs. row_after (row_subject b.request outs) st row) (λ outs. after (subject_with b outs) st i) r
    (λ outs. row_tests_are b outs st row found (λ e. other (sym is ∙ e)) ∙ ap (tests (subject_with b outs) st) is) (λ outs. row_after_is b outs st row found ∙ ap (after (subject_with b outs) st) is) told
