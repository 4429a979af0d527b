-- What bears on the faults behind a border between two groups.
use Rattle.std.proofs.Common.{◌≡◌, ℕ, zero, suc, ◌+◌, ◌-◌, Option, Some, None, List, [], ◌∷◌, ◌++◌, refl, ap, sym, ◌∙◌, arith}
use Rattle.mr_bytes.specs.declared.Name.{Name}
use Rattle.mr_bytes.specs.declared.Value.{Value}
use Rattle.mr_bytes.specs.Pairs.{Triple}
use Rattle.mr_certform.specs.declared.grammar_state.Item.{Item}
use Rattle.mr_certform.specs.declared.grammar_state.Item.TheVariants.{Groups, Entries, Entry, End}
use Rattle.mr_certform.specs.Places.{first_name}
use Rattle.mr_sequential.specs.Good.{named}
use Rattle.mr_verdict.specs.Verdict.{Reached, Subject, after, after_entry, behind_group, entry_tests, group_tests, order_tests, part_faults, tests, with_entry}
use Rattle.mr_judge.specs.Borders.{between}
use Rattle.mr_judge.proofs.PartLemmas.{faults_step}
use Rattle.mr_check.specs.Sections.{BeginsGroup}
use Rattle.mr_check.specs.Walk.{named_more}

-- ---- how many entries were named before bears on no test but that of the end

behind_more : (s : Subject) (n : ℕ) (st : Reached) (e : ℕ) → behind_group s (named_more n st) e ≡ named_more n (behind_group s st e)
behind_more s n st zero = refl
behind_more s n st (suc e) = refl

more_named : (n m : ℕ) → n + m + 1 ≡ n + (m + 1)
more_named n m = omega arith

with_more : (s : Subject) (n : ℕ) (st : Reached) (t : Triple) (e : ℕ) → with_entry (named_more n st) t e ≡ named_more n (with_entry st t e)
with_more s n st t zero = ap (λ m. record (with_entry st t 0) { named = m }) (more_named n st.named)
with_more s n st t (suc e) = ap (λ m. record (with_entry st t (suc e)) { named = m }) (more_named n st.named)

entry_more : (s : Subject) (n : ℕ) (st : Reached) (found : Option Triple) → after_entry s (named_more n st) found ≡ named_more n (after_entry s st found)
entry_more s n st None = refl
entry_more s n st (Some t) = ap (λ (w : Reached). behind_group s w (st.entries - 1)) (with_more s n st t st.entry) ∙ behind_more s n (with_entry st t st.entry) (st.entries - 1)

pub after_more : (s : Subject) (n : ℕ) (st : Reached) (i : Item) → after s (named_more n st) i ≡ named_more n (after s st i)
after_more s n st (Entry name) = entry_more s n st (named s.triples name)
after_more s n st i = refl

order_more : (part : List ℕ → ℕ) (n p : ℕ) (st : Reached) (name : Name) (key : List ℕ) (e : ℕ) → order_tests part p (named_more n st) name key e ≡ order_tests part p st name key e
order_more part n p st name key zero = refl
order_more part n p st name key (suc e) = refl

group_more : (s : Subject) (n p : ℕ) (st : Reached) (e : ℕ) → group_tests s p (named_more n st) e ≡ group_tests s p st e
group_more s n p st zero = refl
group_more s n p st (suc e) = refl

entry_tests_more : (s : Subject) (n p : ℕ) (st : Reached) (name : Name) (found : Option Triple) → entry_tests s p (named_more n st) name found ≡ entry_tests s p st name found
entry_tests_more s n p st name None = refl
entry_tests_more s n p st name (Some t) =
    ap (λ w. w ++ group_tests s p (with_entry (named_more n st) t st.entry) (st.entries - 1)) (order_more s.rules.part n p st name t.key st.entry)
    ∙ ap (λ w. order_tests s.rules.part p st name t.key st.entry ++ w)
    (ap (λ (w : Reached). group_tests s p w (st.entries - 1)) (with_more s n st t st.entry) ∙ group_more s n p (with_entry st t st.entry) (st.entries - 1))

tests_more : (s : Subject) (n : ℕ) (st : Reached) (i : Item) → (i ≡ End → ⊥) → tests s (named_more n st) i ≡ tests s st i
tests_more s n st End other = absurd (other refl)
tests_more s n st (Entry name) other = entry_tests_more s n (st.next - 1) st name (named s.triples name)
tests_more s n st i other = refl

-- so the faults from an item on that passes are those behind it
pub faults_behind : (s : Subject) (at n : ℕ) (st next : Reached) (i : Item) (is : List Item) → (i ≡ End → ⊥) → tests s st i ≡ [] → next ≡ after s st i
    → part_faults s at (named_more n st) (i ∷ is) ≡ part_faults s at (named_more n next) is
faults_behind s at n st next i is other none e =
    faults_step s at (named_more n st) i is other
    ∙ (ap (λ w. w ++ part_faults s at (after s (named_more n st) i) is) (tests_more s n st i other ∙ none)
    ∙ ap (λ (w : Reached). part_faults s at w is) (after_more s n st i ∙ ap (named_more n) (sym e)))

-- ---- the key, name and values of a group bear on nothing where the next one begins

fresh_next : (s : Subject) (at : ℕ) (st : Reached) (key : List ℕ) (before : Name) (values : List Value) (name : Name) (found : Option Triple) (is : List Item)
    → part_faults s at (record st { entry = 0; key = key; before = before; values = values }) is ≡ part_faults s at (record st { entry = 0 }) is
    → entry_tests s (st.next - 1) (record st { entry = 0; key = key; before = before; values = values }) name found
    ++ part_faults s at (after_entry s (record st { entry = 0; key = key; before = before; values = values }) found) is
    ≡ entry_tests s (st.next - 1) (record st { entry = 0 }) name found ++ part_faults s at (after_entry s (record st { entry = 0 }) found) is
fresh_next s at st key before values name None is rec = ap (λ w. entry_tests s (st.next - 1) (record st { entry = 0 }) name None ++ w) rec
fresh_next s at st key before values name (Some t) is rec = refl

faults_fresh : (s : Subject) (at : ℕ) (st : Reached) (key : List ℕ) (before : Name) (values : List Value) (is : List Item)
    → part_faults s at (record st { entry = 0; key = key; before = before; values = values }) is ≡ part_faults s at (record st { entry = 0 }) is
faults_fresh s at st key before values [] = refl
faults_fresh s at st key before values (Groups n ∷ is) =
    ap (λ w. tests s st (Groups n) ++ w) (faults_fresh s at (record st { next = st.next + 1; groups = n; group = 0; key_before = None; from = 0 }) key before values is)
faults_fresh s at st key before values (Entries n ∷ is) = faults_fresh s at (record st { entries = n }) key before values is
faults_fresh s at st key before values (Entry name ∷ is) = fresh_next s at st key before values name (named s.triples name) is (faults_fresh s at st key before values is)
faults_fresh s at st key before values (End ∷ is) = refl
faults_fresh s at st key before values (i ∷ is) = faults_fresh s at st key before values is

-- so all that bears on the faults is in the border, and how many entries were named
pub faults_between : (s : Subject) (at : ℕ) (st : Reached) (is : List Item) → BeginsGroup is → part_faults s at st is ≡ part_faults s at (record (between st) { named = st.named }) is
faults_between s at st (Entries n ∷ is) begins = sym (faults_fresh s at (record st { entries = n }) [] first_name [] is)
faults_between s at st is begins = absurd begins
