-- The partitions item by item: the faults that are left, and the counters.
use Rattle.std.proofs.Common.{◌≡◌, ℕ, zero, suc, ◌+◌, ◌-◌, ◌≤◌, Option, Some, None, List, [], ◌∷◌, ◌++◌, length, refl, ◌∙◌, arith, length-append}
use Rattle.mr_bytes.specs.declared.Name.{Name}
use Rattle.mr_certform.specs.declared.grammar_state.Item.{Item}
use Rattle.mr_certform.specs.declared.grammar_state.Item.TheVariants.{Groups, Entries, Entry, End}
use Rattle.mr_bytes.specs.Pairs.{Triple}
use Rattle.mr_sequential.specs.Good.{named}
use Rattle.mr_verdict.specs.Verdict.{Reached, Subject, with_entry, behind_group, entry_tests, after_entry, tests, after, part_faults, entries_in}
use Rattle.mr_verdict.specs.Steps.{Room}

-- the faults from an item on that isn't the end
pub faults_step : (s : Subject) (at : ℕ) (st : Reached) (i : Item) (is : List Item) → (i ≡ End → ⊥) → part_faults s at st (i ∷ is) ≡ tests s st i ++ part_faults s at (after s st i) is
faults_step s at st End is other = absurd (other refl)
faults_step s at st i is other = refl

-- ---- how many entries there were

pub entries_more : (i : Item) (is : List Item) → entries_in (i ∷ is) ≡ entries_in (i ∷ []) + entries_in is
entries_more (Entry name) is = omega arith
entries_more i is = omega arith

pub one_entry : (i : Item) → entries_in (i ∷ []) ≤ 1
one_entry (Entry name) = omega arith
one_entry i = omega arith

with_named : (st : Reached) (t : Triple) (e : ℕ) → (with_entry st t e).named ≡ st.named + 1
with_named st t zero = refl
with_named st t (suc e) = refl

behind_named : (s : Subject) (st : Reached) (k : ℕ) → (behind_group s st k).named ≡ st.named
behind_named s st zero = refl
behind_named s st (suc k) = refl

entry_named : (s : Subject) (p : ℕ) (st : Reached) (n : Name) (o : Option Triple) → entry_tests s p st n o ≡ [] → (after_entry s st o).named ≡ st.named + 1
entry_named s p st n None none = absurd (cc none)
entry_named s p st n (Some t) none = behind_named s (with_entry st t st.entry) (st.entries - 1) ∙ with_named st t st.entry

pub named_after : (s : Subject) (st : Reached) (i : Item) → tests s st i ≡ [] → (after s st i).named ≡ st.named + entries_in (i ∷ [])
named_after s st (Entry n) none = entry_named s (st.next - 1) st n (named s.triples n) none
named_after s st i none = omega arith

-- ---- counters

-- the same, but for the counters of entries, which come one later
record Roomy (st : Reached) (more : ℕ) (all : ℕ) : Type 0 where
  pub next : st.next + (more + 1) ≤ all
  pub group : st.group + (more + 1) ≤ all
  pub entry : st.entry + more ≤ all
  pub named : st.named + more ≤ all
  pub values : length st.values + more ≤ all

with_room : (st : Reached) (t : Triple) (e : ℕ) (more all : ℕ) → e ≡ st.entry → Room st (more + 1) all → Roomy (with_entry st t e) more all
with_room st t zero more all d r = record { next = omega arith; group = omega arith; entry = omega arith; named = omega arith; values = omega arith }
with_room st t (suc e) more all d r = record { next = omega arith; group = omega arith; entry = omega arith; named = omega arith; values = omega (arith, r.values, length-append st.values (t.value ∷ [])) }

behind_room : (s : Subject) (st : Reached) (k : ℕ) (more all : ℕ) → Roomy st more all → Room (behind_group s st k) more all
behind_room s st zero more all r = record { next = omega arith; group = omega arith; entry = r.entry; named = r.named; values = r.values }
behind_room s st (suc k) more all r = record { next = omega arith; group = omega arith; entry = r.entry; named = r.named; values = r.values }

pub less_room : (st : Reached) (few more all : ℕ) → few ≤ more → Room st more all → Room st few all
less_room st few more all h r = record { next = omega (arith, h); group = omega (arith, h); entry = omega (arith, h); named = omega (arith, h); values = omega (arith, h) }

pub entry_room : (s : Subject) (st : Reached) (o : Option Triple) (more all : ℕ) → Room st (more + 1) all → Room (after_entry s st o) more all
entry_room s st None more all r = less_room st more (more + 1) all (omega arith) r
entry_room s st (Some t) more all r = behind_room s (with_entry st t st.entry) (st.entries - 1) more all (with_room st t st.entry more all refl r)

pub room_after : (s : Subject) (st : Reached) (i : Item) (more all : ℕ) → Room st (more + 1) all → Room (after s st i) more all
room_after s st (Groups n) more all r = record { next = omega arith; group = omega arith; entry = omega arith; named = omega arith; values = omega arith }
room_after s st (Entries n) more all r = record { next = omega arith; group = omega arith; entry = omega arith; named = omega arith; values = omega arith }
room_after s st (Entry n) more all r = entry_room s st (named s.triples n) more all r
room_after s st i more all r = less_room st more (more + 1) all (omega arith) r
