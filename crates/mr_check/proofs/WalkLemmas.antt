-- A walk that takes entries at their word.
use Rattle.std.proofs.Common.{◌≡◌, ℕ, zero, suc, ◌+◌, ◌-◌, ◌≤◌, ◌<◌, Option, Some, None, IfSome, Ok, List, [], ◌∷◌, length, drop, refl, ap, sym, ◌∙◌, subst, arith}
use Rattle.std.proofs.lemmas.List.{drop-drop, get_or-drop}
use Rattle.std.specs.Prelude.{nat_le}
use Rattle.std.specs.Option.{option_map}
use Rattle.std.proofs.lemmas.Bool.{le-leb}
use Rattle.mr_bytes.specs.declared.Name.{Name}
use Rattle.mr_bytes.specs.declared.Value.{Value}
use Rattle.mr_bytes.specs.Lists.{Has}
use Rattle.mr_bytes.specs.Pairs.{Triple}
use Rattle.mr_bytes.proofs.ListLaws.{Has-all, all_from_Has}
use Rattle.mr_certform.specs.declared.grammar_state.Item.{Item}
use Rattle.mr_certform.specs.declared.grammar_state.Item.TheVariants.{Entries, Entry, End}
use Rattle.mr_sequential.specs.Good.{named}
use Rattle.mr_verdict.specs.declared.answers.No.TheVariants.{Unnamed}
use Rattle.mr_input.specs.Files.{contents, nth_file}
use Rattle.mr_index.specs.Index.{triples_of}
use Rattle.mr_jobs.specs.JobSpec.{RequestSpec}
use Rattle.mr_splits.specs.Kept.{Choice}
use Rattle.mr_judge.specs.declared.border.Border.{Border}
use Rattle.mr_judge.specs.Borders.{at_border}
use Rattle.mr_judge.specs.Outputs.{IsTold as PartsTold, Leaves}
use Rattle.mr_check.specs.declared.accept.Front.{Front}
use Rattle.mr_check.specs.declared.given.Given.{Given}
use Rattle.mr_check.specs.Accepted.{known_behind}
use Rattle.mr_judge.specs.Borders.{IsSmall}
use Rattle.mr_check.specs.Sections.{AllPass, end_tests}
use Rattle.mr_verdict.specs.Verdict.{Reached, Subject, start, tests, after, after_entry, behind_group, part_faults, first, entries_in, with_entry}
use Rattle.mr_verdict.specs.Steps.{Known, Room, subject}
use Rattle.mr_verdict.specs.Items.{Coming, Took}
use Rattle.mr_judge.specs.declared.border.FoundItem.{FoundItem}
use Rattle.mr_judge.specs.Rows.{brought, row_after, item_after}
use Rattle.mr_judge.proofs.Faults.{fine}
use Rattle.mr_judge.proofs.PartLemmas.{entry_room, room_after, entries_more, named_after}
use Rattle.mr_check.proofs.BorderLemmas.{faults_behind}
use Rattle.mr_check.specs.Joined.{joined}
use Rattle.mr_check.specs.Claims.{Claim, IsRight}
use Rattle.mr_check.specs.Walk.{HoldsFor, IsTold, Passed, known, named_more}
use Rattle.mr_check.specs.declared.walk.Told.{Told}

-- what was put off before is right where all that was put off behind it is
pub holds_kept : (k : Known) (old new : List Claim) → ((c : Claim) → Has old c → Has new c) → HoldsFor k new → HoldsFor k old
holds_kept k old new kept h =
    all_from_Has (IsRight k.triples (joined k.outputs)) old (λ c there. Has-all (IsRight k.triples (joined k.outputs)) new c h (kept c there))

-- there is room for more behind any row
item_room : (s : Subject) (st : Reached) (row : FoundItem) (i : Item) (more all : ℕ) → Room st (more + 1) all → Room (item_after s st row i) more all
item_room s st row (Entry name) more all r = entry_room s st (brought name row) more all r
item_room s st row i more all r = room_after s st i more all r

pub row_room : (s : Subject) (st : Reached) (row : FoundItem) (more all : ℕ) → Room st (more + 1) all → Room (row_after s st row) more all
row_room s st row more all r = item_room s st row row.item more all r

-- a pair with this key and value under its name is this triple
triple_is : (t : Triple) (key : List ℕ) (v : Value) (name : Name) → t.key ≡ key → t.value ≡ v → t.name ≡ name → t ≡ record { key = key; value = v; name = name }
triple_is t key v name a b d =
    ap (λ (w : List ℕ). record { key = w; value = t.value; name = t.name }) a
    ∙ ap (λ (w : Value). record { key = key; value = w; name = t.name }) b
    ∙ ap (λ (w : Name). record { key = key; value = v; name = w }) d

some_is : {A : Type 0} (a b : A) → Some a ≡ Some b → a ≡ b
some_is a b h = cc h

-- an entry whose claim is right brings the pair of its name
pub found_right : (k : Known) (claims : List Claim) (name : Name) (told : Told) (v : Value) → IsTold k told → HoldsFor k claims → Has claims (record { name = name; line = told.line })
    → ((t : Triple) → named k.triples name ≡ Some t → (t.name ≡ name) × (t.value ≡ v)) → named k.triples name ≡ Some (record { key = told.key.now; value = v; name = name })
found_right k claims name told v is holds has value =
    let right = Has-all (IsRight k.triples (joined k.outputs)) claims (record { name = name; line = told.line }) holds has in
    let t : Triple = right.0 in
    let same = value t right.1.0 in
    let key : t.key ≡ told.key.now = some_is t.key told.key.now (sym right.1.1 ∙ is) in
    right.1.0 ∙ ap (λ (w : Triple). Some w) (triple_is t told.key.now v name key same.1 same.0)

-- ---- the group's key

behind_key : (s : Subject) (st : Reached) (n : ℕ) (key : List ℕ) → (1 ≤ st.entry → key ≡ st.key) → 1 ≤ (behind_group s st n).entry → key ≡ (behind_group s st n).key
behind_key s st zero key h some = h some
behind_key s st (suc n) key h some = h some

with_key : (st : Reached) (t : Triple) (e : ℕ) (key : List ℕ) → e ≡ st.entry → (1 ≤ st.entry → key ≡ st.key) → key ≡ t.key → key ≡ (with_entry st t e).key
with_key st t zero key is h same = same
with_key st t (suc e) key is h same = h (omega (arith, is))

entry_key : (s : Subject) (st : Reached) (o : Option Triple) (key : List ℕ) → (1 ≤ st.entry → key ≡ st.key) → IfSome o (λ t. key ≡ t.key) → 1 ≤ (after_entry s st o).entry → key ≡ (after_entry s st o).key
entry_key s st None key h same some = h some
entry_key s st (Some t) key h same some = behind_key s (with_entry st t st.entry) (st.entries - 1) key (λ more. with_key st t st.entry key refl h same) some

of_mapped : {A B : Type 0} (f : A → B) (o : Option A) (P : B → Type 0) → IfSome o (λ a. P (f a)) → IfSome (option_map f o) P
of_mapped f None P h = tt
of_mapped f (Some a) P h = h

item_key : (s : Subject) (st : Reached) (row : FoundItem) (i : Item) (key : List ℕ) → (1 ≤ st.entry → key ≡ st.key) → IfSome row.found (λ p. key ≡ p.0.now) → 1 ≤ (item_after s st row i).entry → key ≡ (item_after s st row i).key
item_key s st row (Entry name) key h same some = entry_key s st (brought name row) key h (of_mapped (λ p. record { key = p.0.now; value = p.1; name = name }) row.found (λ (t : Triple). key ≡ t.key) same) some
item_key s st row (Entries n) key h same some = absurd (omega (arith, some))
item_key s st row i key h same some = h some

-- the entries of a group that were taken have the key that its line tells
pub key_after : (s : Subject) (st : Reached) (row : FoundItem) (o : Option Told) → (1 ≤ st.entry → IfSome o (λ t. t.key.now ≡ st.key)) → IfSome row.found (λ p. IfSome o (λ t. t.key.now ≡ p.0.now))
    → 1 ≤ (row_after s st row).entry → IfSome o (λ t. t.key.now ≡ (row_after s st row).key)
key_after s st row None h same some = tt
key_after s st row (Some t) h same some = item_key s st row row.item t.key.now h same some

-- ---- all items

-- an item that isn't the end comes first of those that may come
pub took_more : (old new : Coming) (i : Item) → (i ≡ End → ⊥) → Took old new (Ok i) → (is : List Item) (at : ℕ) → new is at → old (i ∷ is) at
took_more old new End other t is at n = absurd (other refl)
took_more old new i other t is at n = t is at n

-- an item that passes leaves what is behind it
pub passed_next : (s : Subject) (old st next : Reached) (is left : List Item) (i : Item) → (i ≡ End → ⊥) → Passed s old st is (i ∷ left)
    → tests s st i ≡ [] → next ≡ after s st i → Passed s old next is left
passed_next s old st next is left i other h none e = record {
  faults = λ at n. h.faults at n ∙ faults_behind s at n st next i left other none e;
  named = omega (arith, h.named, entries_more i left, ap (λ (w : Reached). w.named) e, named_after s st i none);
}

pub passed_none : (s : Subject) (st : Reached) (is : List Item) → Passed s st st is is
passed_none s st is = record { faults = λ at n. refl; named = refl }

-- a walk took so many items: of those that might come before, those that may come now are left, and what was put off being
-- right, the others passed
abbrev pub Going : Coming → Coming → Known → List Claim → Reached → Reached → ℕ → Type 0
Going old now k claims first st n =
    HoldsFor k claims → (left : List Item) (at : ℕ) → now left at → (is : List Item) × (old is at × ((left ≡ drop n is) × Passed (subject k) first st is left))

pub going_first : (old : Coming) (k : Known) (claims : List Claim) (st : Reached) (n : ℕ) → n ≡ 0 → Going old old k claims st st n
going_first old k claims st n e holds left at there = (left, (there, (ap (λ w. drop w left) (sym e), passed_none (subject k) st left)))

pub going_next : (old now new : Coming) (k : Known) (before after_ : List Claim) (first st next : Reached) (n m : ℕ) (i : Item) → (i ≡ End → ⊥)
    → Going old now k before first st n → Took now new (Ok i) → ((c : Claim) → Has before c → Has after_ c) → m ≡ n + 1
    → (HoldsFor k after_ → (tests (subject k) st i ≡ []) × (next ≡ after (subject k) st i)) → Going old new k after_ first next m
going_next old now new k before after_ first st next n m i other going took kept e passed holds left at there =
    let g = going (holds_kept k before after_ kept holds) (i ∷ left) at (took_more now new i other took left at there) in
    let p = passed holds in
    let behind : left ≡ drop m g.0 = ap (drop 1) g.1.1.0 ∙ (drop-drop 1 n g.0 ∙ ap (λ w. drop w g.0) (sym e)) in
    (g.0, (g.1.0, (behind, passed_next (subject k) first st next g.0 left i other g.1.1.1 p.0 p.1)))

-- ---- all items passed

-- all items that passed up to the end
pub passed_all : (s : Subject) (st new : Reached) (is : List Item) → st ≡ start → Passed s st new is (End ∷ []) → AllPass s is new.named
passed_all s st new is e h =
    let none : 0 + new.named ≡ new.named = omega arith in
    record {
      faults = λ at. ap (λ (w : Reached). part_faults s at (named_more 0 w) is) (sym e) ∙ (h.faults at 0 ∙ ap (end_tests s) none);
      named = omega (arith, h.named, ap (λ (w : Reached). w.named) e);
    }

-- nothing is told of them, where there are as many pairs as entries
pub accepted : (k : Known) (is : List Item) (at n : ℕ) → AllPass (subject k) is n → length k.triples ≡ n → PartsTold (part_faults (subject k) at start is) (entries_in is) (Ok n)
accepted k is at n h few =
    (ap first (h.faults at ∙ fine (nat_le (length k.triples) n) (Unnamed (length k.triples) n) (le-leb (length k.triples) n (omega (arith, few)))), sym h.named)

-- ---- what is given behind a front

pub known_same : (g : Given) (f : Front) → g.request.now ≡ f.request.now → g.kept.now ≡ record { cut = f.plan; skips = f.skips.items } → g.outputs.now ≡ contents f.outputs.now → known g ≡ known_behind f
known_same g f r c o =
    ap (λ (q : RequestSpec). record { request = q; triples = triples_of q.job g.kept.now.cut g.kept.now.skips; outputs = g.outputs.now }) r
    ∙ ap (λ (w : Choice). record { request = f.request.now; triples = triples_of f.request.now.job w.cut w.skips; outputs = g.outputs.now }) c
    ∙ ap (λ (w : List (List ℕ)). record { request = f.request.now; triples = triples_of f.request.now.job f.plan f.skips.items; outputs = w }) o

-- ---- a walk that begins at a border

pub leaves_at : (st : Reached) (b : Border) (outs : List (List ℕ)) (rest : List ℕ) (later : List (List ℕ)) → st ≡ at_border b → rest ≡ drop b.from (nth_file outs (b.next - 1)) → later ≡ drop b.next outs
    → Leaves st outs rest later
leaves_at st b outs rest later e r l = record {
  rest_is = ap (λ (w : Reached). drop w.from (nth_file outs (w.next - 1))) e ∙ sym r;
  later_is = λ q. ap (λ (w : Reached). nth_file outs (w.next + q)) e ∙ (sym (nth_dropped b.next q outs) ∙ ap (λ (w : List (List ℕ)). nth_file w q) (sym l));
}
  where
    nth_dropped : (n q : ℕ) (xs : List (List ℕ)) → nth_file (drop n xs) q ≡ nth_file xs (n + q)
    nth_dropped n q xs = get_or-drop n xs q []

pub border_room : (b : Border) (st : Reached) (n : ℕ) → IsSmall b → st ≡ at_border b → n < 9223372036854775808 → Room st n 9223372041149743104
border_room b st n small e few =
    subst (λ (w : Reached). Room w n 9223372041149743104) (sym e)
    (record { next = omega (arith, small.next, few); group = omega (arith, small.group, few); entry = omega (arith, few); named = omega (arith, few); values = omega (arith, few) })
