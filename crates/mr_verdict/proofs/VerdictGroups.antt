-- What the tests of a group's entries say of it.
use Rattle.std.proofs.Common.{◌≡◌, ℕ, zero, suc, ◌+◌, ◌-◌, ◌≤◌, true, Option, Some, None, List, [], ◌∷◌, ◌++◌, length, map, refl, ap, sym, ◌∙◌, subst, arith, ◌==◌, append_assoc, IsSome}
use Rattle.std.proofs.lemmas.Bool.{eqb-true, eq-eqb}
use Rattle.std.proofs.lemmas.List.{append-nil}
use Rattle.std.specs.List.{AllByRecursion, filter_map, cons_option}
use Rattle.std.specs.Option.{option_map_or}
use Rattle.std.specs.Ordering.{is_lt}
use Rattle.std.specs.Str.{bytes_eq}
use Rattle.std.specs.declared.cmp.Ordering.TheVariants.{Less}
use Rattle.mr_bytes.specs.declared.Name.{Name}
use Rattle.mr_bytes.specs.declared.Value.{Value}
use Rattle.mr_bytes.specs.Lists.{Rises}
use Rattle.mr_bytes.specs.Order.{name_order}
use Rattle.mr_input.specs.Files.{nth_file}
use Rattle.mr_certform.specs.declared.grammar_state.Item.TheVariants.{Entry}
use Rattle.mr_certform.specs.Value.{group_items}
use Rattle.mr_sequential.proofs.KeyLaws.{bytes_eq-is, bytes_eq-same}
use Rattle.mr_bytes.specs.Pairs.{Triple}
use Rattle.mr_sequential.specs.Good.{named, key_under, key_of, values_under, text_under, IsGoodGroup}
use Rattle.mr_verdict.specs.declared.answers.No.{No}
use Rattle.mr_verdict.specs.declared.answers.No.TheVariants.{EntryOrder, KeyDiffers, WrongPartition, KeyOrder}
use Rattle.mr_verdict.specs.Verdict.{Reached, Subject, tests, after, passes, text_tests, end_tests, is_key_past, first_tests, later_tests, order_tests, with_entry, entry_tests, group_tests, behind_group, after_entry}
use Rattle.mr_verdict.specs.VerdictLaws.{told, behind}
use Rattle.mr_sequential.proofs.EntryLaws.{names_total}
use Rattle.mr_sequential.proofs.NamedLaws.{named-Has, some_is}
use Rattle.mr_verdict.proofs.VerdictTests.{none_left, none_right, none_both, passed, passes-true, lt-less}

module _ (s : Subject) where
  -- the entries behind an entry: each names a triple, names rise from the one before, and all have this key
  pub record AreLater (k : List ℕ) (before : Name) (ns : List Name) : Type 0 where
    pub entries : AllByRecursion (λ n. IsSome (named s.triples n)) ns
    pub past : AllByRecursion (λ n. name_order before n ≡ Less) ns
    pub rises : Rises name_order ns
    pub one_key : AllByRecursion (λ n. key_under s.triples n ≡ k) ns

  -- what is remembered behind a group of this key and text, of so many entries
  pub record IsBehind (old new : Reached) (k text : List ℕ) (n : ℕ) : Type 0 where
    pub next : new.next ≡ old.next
    pub groups : new.groups ≡ old.groups - 1
    pub group : new.group ≡ old.group + 1
    pub key_before : new.key_before ≡ Some k
    pub from : new.from ≡ old.from + length text
    pub named : new.named ≡ old.named + n

  -- a group's text, and where it is the last group the partition's end
  abbrev pub text_told : Reached → List ℕ → List No
  text_told st text =
      text_tests (nth_file s.outputs (st.next - 1)) (st.next - 1) st.from text
      ++ end_tests (nth_file s.outputs (st.next - 1)) (st.next - 1) (st.groups - 1) (st.from + length text)

  -- behind a group's first entry, m entries being still to come
  abbrev first : Reached → Triple → ℕ → Reached
  first st t m = record st { entry = 1; entries = m; key = t.key; before = t.name; values = t.value ∷ []; named = st.named + 1 }

  -- behind a further one
  abbrev more : Reached → Triple → ℕ → ℕ → Reached
  more st t e m = record st { entry = suc (suc e); entries = m; before = t.name; values = st.values ++ t.value ∷ []; named = st.named + 1 }

  -- what is told of the entries that follow an entry, and of the group's end
  abbrev entries_told : Reached → List Name → List No
  entries_told st ns = group_tests s (st.next - 1) st (length ns) ++ told s (behind_group s st (length ns)) (map Entry ns)

  abbrev entries_behind : Reached → List Name → Reached
  entries_behind st ns = behind s (behind_group s st (length ns)) (map Entry ns)

  one_less : (n m : ℕ) → n ≡ suc m → n - 1 ≡ m
  one_less n m e = omega arith

  with_more : (st : Reached) (t : Triple) (e m : ℕ) → st.entry ≡ suc e → st.entries ≡ suc m → with_entry st t st.entry ≡ more st t e m
  with_more st t e m he hm =
      let next : suc e + 1 ≡ suc (suc e) = omega arith in
      let left : st.entries - 1 ≡ m = one_less st.entries m hm in
      ap (with_entry st t) he
      ∙ (ap (λ (x : ℕ). record st { entry = x; entries = st.entries - 1; before = t.name; values = st.values ++ t.value ∷ []; named = st.named + 1 }) next
      ∙ ap (λ (x : ℕ). record st { entry = suc (suc e); entries = x; before = t.name; values = st.values ++ t.value ∷ []; named = st.named + 1 }) left)

  more_tests : (st : Reached) (n : Name) (t : Triple) (e m : ℕ) → st.entry ≡ suc e → st.entries ≡ suc m → named s.triples n ≡ Some t
      → tests s st (Entry n) ≡ later_tests (st.next - 1) st.group (suc e) st.before n st.key t.key ++ group_tests s (st.next - 1) (more st t e m) m
  more_tests st n t e m he hm is =
      ap (entry_tests s (st.next - 1) st n) is
      ∙ (ap (λ x. order_tests s.rules.part (st.next - 1) st n t.key x ++ group_tests s (st.next - 1) (with_entry st t st.entry) (st.entries - 1)) he
      ∙ (ap (λ w. later_tests (st.next - 1) st.group (suc e) st.before n st.key t.key ++ group_tests s (st.next - 1) w (st.entries - 1)) (with_more st t e m he hm)
      ∙ ap (λ x. later_tests (st.next - 1) st.group (suc e) st.before n st.key t.key ++ group_tests s (st.next - 1) (more st t e m) x) (one_less st.entries m hm)))

  more_after : (st : Reached) (n : Name) (t : Triple) (e m : ℕ) → st.entry ≡ suc e → st.entries ≡ suc m → named s.triples n ≡ Some t
      → after s st (Entry n) ≡ behind_group s (more st t e m) m
  more_after st n t e m he hm is =
      ap (after_entry s st) is
      ∙ (ap (λ w. behind_group s w (st.entries - 1)) (with_more st t e m he hm) ∙ ap (λ x. behind_group s (more st t e m) x) (one_less st.entries m hm))

  -- one entry in front of those that follow
  more_told : (st : Reached) (n : Name) (ns : List Name) (t : Triple) (e : ℕ) → st.entry ≡ suc e → st.entries ≡ suc (length ns) → named s.triples n ≡ Some t
      → entries_told st (n ∷ ns) ≡ later_tests (st.next - 1) st.group (suc e) st.before n st.key t.key ++ entries_told (more st t e (length ns)) ns
  more_told st n ns t e he hm is =
      let tested : List No = later_tests (st.next - 1) st.group (suc e) st.before n st.key t.key in
      ap (λ w. w ++ told s (after s st (Entry n)) (map Entry ns)) (more_tests st n t e (length ns) he hm is)
      ∙ (ap (λ w. (tested ++ group_tests s (st.next - 1) (more st t e (length ns)) (length ns)) ++ told s w (map Entry ns)) (more_after st n t e (length ns) he hm is)
      ∙ append_assoc tested (group_tests s (st.next - 1) (more st t e (length ns)) (length ns)) (told s (behind_group s (more st t e (length ns)) (length ns)) (map Entry ns)))

  -- where nothing is told of an entry there is a triple under its name
  found : (st : Reached) (n : Name) → tests s st (Entry n) ≡ [] → (t : Triple) × (named s.triples n ≡ Some t)
  found st n e = by (named s.triples n) refl e
    where
      by : (o : Option Triple) → named s.triples n ≡ o → entry_tests s (st.next - 1) st n o ≡ [] → (t : Triple) × (named s.triples n ≡ Some t)
      by None is e = absurd (cc)
      by (Some t) is e = (t, is)

  all_past : (a b : Name) (ns : List Name) → name_order a b ≡ Less → AllByRecursion (λ n. name_order b n ≡ Less) ns → AllByRecursion (λ n. name_order a n ≡ Less) ns
  all_past a b [] h all = tt
  all_past a b (n ∷ ns) h all = (names_total.trans a b n h all.0, all_past a b ns h all.1)

  key_found : (n : Name) (t : Triple) → named s.triples n ≡ Some t → key_under s.triples n ≡ t.key
  key_found n t is = ap (λ o. option_map_or (λ (u : Triple). u.key) o []) is

  is_some : (n : Name) (t : Triple) → named s.triples n ≡ Some t → IsSome (named s.triples n)
  is_some n t is = subst IsSome (sym is) refl

  later_good : (ns : List Name) (st : Reached) (e : ℕ) → st.entry ≡ suc e → st.entries ≡ length ns → entries_told st ns ≡ [] → AreLater st.key st.before ns
  later_good [] st e he hm none = record { entries = tt; past = tt; rises = tt; one_key = tt }
  later_good (n ∷ ns) st e he hm none =
      let f = found st n (none_left (tests s st (Entry n)) _ none) in
      let t : Triple = f.0 in
      let whole : later_tests (st.next - 1) st.group (suc e) st.before n st.key t.key ++ entries_told (more st t e (length ns)) ns ≡ [] = sym (more_told st n ns t e he hm f.1) ∙ none in
      let here = none_left (later_tests (st.next - 1) st.group (suc e) st.before n st.key t.key) _ whole in
      let rest = none_right (later_tests (st.next - 1) st.group (suc e) st.before n st.key t.key) _ whole in
      let order = none_left (passes (is_lt (name_order st.before n)) (EntryOrder (st.next - 1) st.group (suc e))) _ here in
      let key = none_right (passes (is_lt (name_order st.before n)) (EntryOrder (st.next - 1) st.group (suc e))) _ here in
      let past : name_order st.before n ≡ Less = lt-less _ (passed _ _ order) in
      let same : t.key ≡ st.key = bytes_eq-is _ _ (passed _ _ key) in
      let name : t.name ≡ n = (named-Has s.triples n t f.1).1 in
      let g = later_good ns (more st t e (length ns)) (suc e) refl refl rest in
      let after_n : AllByRecursion (λ m. name_order n m ≡ Less) ns = subst (λ w. AllByRecursion (λ m. name_order w m ≡ Less) ns) name g.past in
      record {
        entries = (is_some n t f.1, g.entries);
        past = (past, all_past st.before n ns past after_n);
        rises = (after_n, g.rises);
        one_key = (key_found n t f.1 ∙ same, g.one_key);
      }

  values_found : (n : Name) (ns : List Name) (t : Triple) → named s.triples n ≡ Some t → values_under s.triples (n ∷ ns) ≡ t.value ∷ values_under s.triples ns
  values_found n ns t is = ap (λ o. map (λ (u : Triple). u.value) (cons_option o (filter_map (named s.triples) ns))) is

  one_more : (vs : List Value) (v : Value) (ws : List Value) → (vs ++ v ∷ []) ++ ws ≡ vs ++ v ∷ ws
  one_more vs v ws = append_assoc vs (v ∷ []) ws

  -- what is left of them behind the first of them
  fewer : (k : List ℕ) (before n : Name) (ns : List Name) (t : Triple) → named s.triples n ≡ Some t → AreLater k before (n ∷ ns) → AreLater k t.name ns
  fewer k before n ns t is g =
      record { entries = g.entries.1; past = subst (λ w. AllByRecursion (λ m. name_order w m ≡ Less) ns) (sym ((named-Has s.triples n t is).1)) g.rises.0; rises = g.rises.1; one_key = g.one_key.1 }

  -- where the entries are as they should, the text alone is told of
  later_told : (ns : List Name) (st : Reached) (e : ℕ) → st.entry ≡ suc e → st.entries ≡ length ns → AreLater st.key st.before ns
      → entries_told st ns ≡ text_told st (s.rules.text st.key (st.values ++ values_under s.triples ns))
  later_told [] st e he hm g =
      append-nil (group_tests s (st.next - 1) st zero) ∙ ap (λ vs. text_told st (s.rules.text st.key vs)) (sym (append-nil st.values))
  later_told (n ∷ ns) st e he hm g =
      let f = some_is (named s.triples n) g.entries.0 in
      let t : Triple = f.0 in
      let same : t.key ≡ st.key = sym (key_found n t f.1) ∙ g.one_key.0 in
      let order = passes-true (is_lt (name_order st.before n)) (EntryOrder (st.next - 1) st.group (suc e)) (ap is_lt g.past.0) in
      let key = passes-true (bytes_eq t.key st.key) (KeyDiffers (st.next - 1) st.group (suc e)) (ap (λ w. bytes_eq w st.key) same ∙ bytes_eq-same st.key) in
      let here : later_tests (st.next - 1) st.group (suc e) st.before n st.key t.key ≡ [] = none_both _ _ order key in
      more_told st n ns t e he hm f.1
      ∙ (ap (λ w. w ++ entries_told (more st t e (length ns)) ns) here
      ∙ (later_told ns (more st t e (length ns)) (suc e) refl refl (fewer st.key st.before n ns t f.1 g)
      ∙ ap (λ vs. text_told st (s.rules.text st.key vs)) (one_more st.values t.value (values_under s.triples ns) ∙ ap (λ vs. st.values ++ vs) (sym (values_found n ns t f.1)))))

  later_behind : (ns : List Name) (st : Reached) (e : ℕ) → st.entry ≡ suc e → st.entries ≡ length ns → AreLater st.key st.before ns
      → IsBehind st (entries_behind st ns) st.key (s.rules.text st.key (st.values ++ values_under s.triples ns)) (length ns)
  later_behind [] st e he hm g = record {
    next = refl;
    groups = refl;
    group = refl;
    key_before = refl;
    from = ap (λ vs. st.from + length (s.rules.text st.key vs)) (sym (append-nil st.values));
    named = omega arith;
  }
  later_behind (n ∷ ns) st e he hm g =
      let f = some_is (named s.triples n) g.entries.0 in
      let t : Triple = f.0 in
      let b = later_behind ns (more st t e (length ns)) (suc e) refl refl (fewer st.key st.before n ns t f.1 g) in
      let values : (st.values ++ t.value ∷ []) ++ values_under s.triples ns ≡ st.values ++ values_under s.triples (n ∷ ns) =
      one_more st.values t.value (values_under s.triples ns) ∙ ap (λ vs. st.values ++ vs) (sym (values_found n ns t f.1)) in
      let moved : entries_behind st (n ∷ ns) ≡ entries_behind (more st t e (length ns)) ns = ap (λ w. behind s w (map Entry ns)) (more_after st n t e (length ns) he hm f.1) in
      subst (λ (w : Reached). IsBehind st w st.key (s.rules.text st.key (st.values ++ values_under s.triples (n ∷ ns))) (length (n ∷ ns))) (sym moved) (record {
        next = b.next;
        groups = b.groups;
        group = b.group;
        key_before = b.key_before;
        from = b.from ∙ ap (λ vs. st.from + length (s.rules.text st.key vs)) values;
        named = omega (arith, b.named);
      })

  -- ---- a group

  first_told : (st : Reached) (n : Name) (ns : List Name) (t : Triple) → named s.triples n ≡ Some t
      → told s st (group_items (n ∷ ns)) ≡ first_tests s.rules.part (st.next - 1) st.group st.key_before t.key ++ entries_told (first st t (length ns)) ns
  first_told st n ns t is =
      let u : Reached = record st { entries = suc (length ns); entry = 0 } in
      let left : suc (length ns) - 1 ≡ length ns = omega arith in
      let tested : List No = first_tests s.rules.part (st.next - 1) st.group st.key_before t.key in
      ap (λ o. entry_tests s (st.next - 1) u n o ++ told s (after_entry s u o) (map Entry ns)) is
      ∙ (ap (λ (x : ℕ). (tested ++ group_tests s (st.next - 1) (first st t x) x) ++ told s (behind_group s (first st t x) x) (map Entry ns)) left
      ∙ append_assoc tested (group_tests s (st.next - 1) (first st t (length ns)) (length ns)) (told s (behind_group s (first st t (length ns)) (length ns)) (map Entry ns)))

  first_behind : (st : Reached) (n : Name) (ns : List Name) (t : Triple) → named s.triples n ≡ Some t
      → behind s st (group_items (n ∷ ns)) ≡ entries_behind (first st t (length ns)) ns
  first_behind st n ns t is =
      let left : suc (length ns) - 1 ≡ length ns = omega arith in
      let u : Reached = record st { entries = suc (length ns); entry = 0 } in
      ap (λ o. behind s (after_entry s u o) (map Entry ns)) is
      ∙ ap (λ (x : ℕ). behind s (behind_group s (first st t x) x) (map Entry ns)) left

  -- where nothing is told of a group it is good, and its key is past the one before
  pub group_good : (st : Reached) (ns : List Name) → 1 ≤ length ns → told s st (group_items ns) ≡ []
      → IsGoodGroup s.rules.part s.triples (st.next - 1) ns × (is_key_past st.key_before (key_of s.triples ns) ≡ true)
  group_good st [] some none = absurd (omega arith)
  group_good st (n ∷ ns) some none =
      let f = found (record st { entries = suc (length ns); entry = 0 }) n (none_left (tests s (record st { entries = suc (length ns); entry = 0 }) (Entry n)) _ none) in
      let t : Triple = f.0 in
      let whole : first_tests s.rules.part (st.next - 1) st.group st.key_before t.key ++ entries_told (first st t (length ns)) ns ≡ [] = sym (first_told st n ns t f.1) ∙ none in
      let here = none_left (first_tests s.rules.part (st.next - 1) st.group st.key_before t.key) _ whole in
      let rest = none_right (first_tests s.rules.part (st.next - 1) st.group st.key_before t.key) _ whole in
      let part = none_left (passes (s.rules.part t.key == (st.next - 1)) (WrongPartition (st.next - 1) st.group 0)) _ here in
      let past = none_right (passes (s.rules.part t.key == (st.next - 1)) (WrongPartition (st.next - 1) st.group 0)) _ here in
      let g = later_good ns (first st t (length ns)) 0 refl refl rest in
      let name : t.name ≡ n = (named-Has s.triples n t f.1).1 in
      let key : key_under s.triples n ≡ t.key = key_found n t f.1 in (
        record {
          some_entry = omega arith;
          entries = (is_some n t f.1, g.entries);
          names_rise = (subst (λ w. AllByRecursion (λ m. name_order w m ≡ Less) ns) name g.past, g.rises);
          one_key = (refl, subst (λ k. AllByRecursion (λ m. key_under s.triples m ≡ k) ns) (sym key) g.one_key);
          partition = ap s.rules.part key ∙ eqb-true _ _ (passed _ _ part);
        },
        ap (is_key_past st.key_before) key ∙ passed _ _ past,
      )

  -- where it is good, its text alone is told of, and what is behind it
  pub group_told : (st : Reached) (ns : List Name) → IsGoodGroup s.rules.part s.triples (st.next - 1) ns → is_key_past st.key_before (key_of s.triples ns) ≡ true
      → (told s st (group_items ns) ≡ text_told st (text_under s.rules.text s.triples ns))
      × IsBehind st (behind s st (group_items ns)) (key_of s.triples ns) (text_under s.rules.text s.triples ns) (length ns)
  group_told st [] good past = absurd (omega (arith, good.some_entry))
  group_told st (n ∷ ns) good past =
      let f = some_is (named s.triples n) good.entries.0 in
      let t : Triple = f.0 in
      let name : t.name ≡ n = (named-Has s.triples n t f.1).1 in
      let key : key_under s.triples n ≡ t.key = key_found n t f.1 in
      let later : AreLater t.key t.name ns = record {
        entries = good.entries.1;
        past = subst (λ w. AllByRecursion (λ m. name_order w m ≡ Less) ns) (sym name) good.names_rise.0;
        rises = good.names_rise.1;
        one_key = subst (λ k. AllByRecursion (λ m. key_under s.triples m ≡ k) ns) key good.one_key.1;
      } in
      let part_passes = passes-true (s.rules.part t.key == (st.next - 1)) (WrongPartition (st.next - 1) st.group 0) (eq-eqb _ _ (ap s.rules.part (sym key) ∙ good.partition)) in
      let key_passes = passes-true (is_key_past st.key_before t.key) (KeyOrder (st.next - 1) st.group 0) (ap (is_key_past st.key_before) (sym key) ∙ past) in
      let here : first_tests s.rules.part (st.next - 1) st.group st.key_before t.key ≡ [] = none_both _ _ part_passes key_passes in
      let b = later_behind ns (first st t (length ns)) 0 refl refl later in
      let text : s.rules.text t.key (t.value ∷ values_under s.triples ns) ≡ text_under s.rules.text s.triples (n ∷ ns) =
      ap (λ vs. s.rules.text t.key vs) (sym (values_found n ns t f.1)) ∙ ap (λ k. s.rules.text k (values_under s.triples (n ∷ ns))) (sym key) in (
        first_told st n ns t f.1
            ∙ (ap (λ w. w ++ entries_told (first st t (length ns)) ns) here
            ∙ (later_told ns (first st t (length ns)) 0 refl refl later ∙ ap (text_told st) text)),
        subst (λ (w : Reached). IsBehind st w (key_of s.triples (n ∷ ns)) (text_under s.rules.text s.triples (n ∷ ns)) (length (n ∷ ns))) (sym (first_behind st n ns t f.1)) (record {
          next = b.next;
          groups = b.groups;
          group = b.group;
          key_before = b.key_before ∙ ap (λ k. Some k) (sym key);
          from = b.from ∙ ap (λ (w : List ℕ). st.from + length w) text;
          named = omega (arith, b.named);
        }),
      )
