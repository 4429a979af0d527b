-- What the tests of the partitions say of them.
use Rattle.std.proofs.Common.{◌≡◌, ℕ, zero, suc, ◌+◌, ◌-◌, ◌≤◌, true, Option, Some, None, List, [], ◌∷◌, ◌++◌, length, map, drop, refl, ap, sym, ◌∙◌, subst, arith, append_assoc, length-append}
use Rattle.std.proofs.lemmas.Cmp.{nat_list_cmp_total}
use Rattle.std.specs.List.{AllByRecursion, flat_map}
use Rattle.std.specs.Ordering.{is_lt}
use Rattle.std.specs.declared.cmp.Ordering.TheVariants.{Less}
use Rattle.mr_bytes.specs.declared.Name.{Name}
use Rattle.mr_bytes.specs.Lists.{Rises}
use Rattle.mr_bytes.specs.Order.{key_order}
use Rattle.mr_input.specs.Files.{nth_file}
use Rattle.mr_certform.specs.declared.grammar_state.Item.{Item}
use Rattle.mr_certform.specs.declared.grammar_state.Item.TheVariants.{Entry, End}
use Rattle.mr_certform.specs.Value.{group_items, part_items}
use Rattle.mr_sequential.specs.Good.{key_of, text_under, IsGoodGroup, IsGoodPart, entries_of}
use Rattle.mr_sequential.proofs.EntryLaws.{EachFrom}
use Rattle.mr_verdict.specs.declared.answers.No.{No}
use Rattle.mr_verdict.specs.Verdict.{Reached, Subject, tests, after, text_tests, end_tests, is_key_past, part_faults}
use Rattle.mr_verdict.specs.VerdictLaws.{told, behind}
use Rattle.mr_verdict.proofs.VerdictGroups.{IsBehind, text_told, group_good, group_told}
use Rattle.mr_verdict.proofs.VerdictTests.{none_left, none_right, none_both, lt-less, text_stands, text_passes, text_behind, end_stands, end_passes, told_append, behind_append}

subst3 : {A B C : Type 0} (P : A → B → C → Type 0) {a d : A} {b e : B} {c f : C} → a ≡ d → b ≡ e → c ≡ f → P a b c → P d e f
subst3 {A} {B} {C} P {a} {d} {b} {e} {c} {f} p q r h = subst (λ (z : C). P d e z) r (subst (λ (y : B). P d y c) q (subst (λ (x : A). P x b c) p h))

ap3 : {A B C D : Type 0} (g : A → B → C → D) {a d : A} {b e : B} {c f : C} → a ≡ d → b ≡ e → c ≡ f → g a b c ≡ g d e f
ap3 g p q r = λ i. g (p i) (q i) (r i)

-- each group has an entry
abbrev pub HaveEntries : List (List Name) → Type 0
HaveEntries gs = AllByRecursion (λ ns. 1 ≤ length ns) gs

module _ (s : Subject) where
  -- groups that may follow one of this key, and whose texts are all that is left of the output
  record AreGroups (p : ℕ) (before : Option (List ℕ)) (gs : List (List Name)) (rest : List ℕ) : Type 0 where
    groups : AllByRecursion (IsGoodGroup s.rules.part s.triples p) gs
    keys_rise : Rises key_order (map (key_of s.triples) gs)
    past : AllByRecursion (λ k. is_key_past before k ≡ true) (map (key_of s.triples) gs)
    output_is : rest ≡ flat_map (text_under s.rules.text s.triples) gs

  -- the test of the output's end where no group follows, and then what is told of the groups
  abbrev end_told : ℕ → ℕ → ℕ → List No
  end_told next groups from = end_tests (nth_file s.outputs (next - 1)) (next - 1) groups from

  abbrev groups_told : Reached → List (List Name) → List No
  groups_told st gs = end_told st.next (length gs) st.from ++ told s st (flat_map group_items gs)

  abbrev Rest : List (List Name) → ℕ → Option (List ℕ) → ℕ → Type 0
  Rest gs next before from = AreGroups (next - 1) before gs (drop from (nth_file s.outputs (next - 1)))

  past_later : (before : Option (List ℕ)) (k j : List ℕ) → is_key_past before k ≡ true → key_order k j ≡ Less → is_key_past before j ≡ true
  past_later None k j h l = refl
  past_later (Some b) k j h l = ap is_lt (nat_list_cmp_total.trans b k j (lt-less _ h) l)

  all_past : (before : Option (List ℕ)) (k : List ℕ) (ks : List (List ℕ)) → is_key_past before k ≡ true → AllByRecursion (λ j. key_order k j ≡ Less) ks → AllByRecursion (λ j. is_key_past before j ≡ true) ks
  all_past before k [] h all = tt
  all_past before k (j ∷ ks) h all = (past_later before k j h all.0, all_past before k ks h all.1)

  past_less : (k : List ℕ) (ks : List (List ℕ)) → AllByRecursion (λ j. is_key_past (Some k) j ≡ true) ks → AllByRecursion (λ j. key_order k j ≡ Less) ks
  past_less k [] all = tt
  past_less k (j ∷ ks) all = (lt-less _ all.0, past_less k ks all.1)

  less_past : (k : List ℕ) (ks : List (List ℕ)) → AllByRecursion (λ j. key_order k j ≡ Less) ks → AllByRecursion (λ j. is_key_past (Some k) j ≡ true) ks
  less_past k [] all = tt
  less_past k (j ∷ ks) all = (ap is_lt all.0, less_past k ks all.1)

  all_none : (ks : List (List ℕ)) → AllByRecursion (λ j. is_key_past None j ≡ true) ks
  all_none [] = tt
  all_none (j ∷ ks) = (refl, all_none ks)

  -- the end's test behind a group is the one that its last entry makes
  end_behind : (st new : Reached) (k text : List ℕ) (n m : ℕ) → IsBehind s st new k text n → st.groups ≡ suc m → end_told new.next m new.from ≡ end_told st.next (st.groups - 1) (st.from + length text)
  end_behind st new k text n m b h = let left : m ≡ st.groups - 1 = omega arith in ap3 end_told b.next left b.from

  groups_good : (gs : List (List Name)) (st : Reached) → HaveEntries gs → st.groups ≡ length gs → groups_told st gs ≡ [] → Rest gs st.next st.key_before st.from
  groups_good [] st some h none =
      record { groups = tt; keys_rise = tt; past = tt; output_is = end_stands (nth_file s.outputs (st.next - 1)) (st.next - 1) st.from (none_left (end_told st.next zero st.from) [] none) }
  groups_good (ns ∷ gs) st some h none =
      let text : List ℕ = text_under s.rules.text s.triples ns in
      let k : List ℕ = key_of s.triples ns in
      let new : Reached = behind s st (group_items ns) in
      let output : List ℕ = nth_file s.outputs (st.next - 1) in
      let both : told s st (group_items ns) ++ told s new (flat_map group_items gs) ≡ [] = sym (told_append s st (group_items ns) (flat_map group_items gs)) ∙ none in
      let here = none_left (told s st (group_items ns)) _ both in
      let good = group_good s st ns some.0 here in
      let told_is = group_told s st ns good.0 good.1 in
      let b = told_is.1 in
      let texts : text_told s st text ≡ [] = sym (told_is.0) ∙ here in
      let stands = text_stands output (st.next - 1) st.from text (none_left (text_tests output (st.next - 1) st.from text) _ texts) in
      let ends : end_told new.next (length gs) new.from ≡ [] = end_behind st new k text (length ns) (length gs) b h ∙ none_right (text_tests output (st.next - 1) st.from text) _ texts in
      let fewer : new.groups ≡ length gs = omega (arith, b.groups, h) in
      let later = groups_good gs new some.1 fewer (none_both (end_told new.next (length gs) new.from) _ ends (none_right (told s st (group_items ns)) _ both)) in
      let rest : Rest gs st.next (Some k) (st.from + length text) = subst3 (Rest gs) b.next b.key_before b.from later in
      let less = past_less k (map (key_of s.triples) gs) rest.past in
      record {
        groups = (good.0, rest.groups);
        keys_rise = (less, rest.keys_rise);
        past = (good.1, all_past st.key_before k (map (key_of s.triples) gs) good.1 less);
        output_is = stands ∙ ap (λ w. text ++ w) rest.output_is;
      }

  -- where they are good nothing is told, and what is remembered behind them
  record ArePassed (st : Reached) (gs : List (List Name)) : Type 0 where
    none : groups_told st gs ≡ []
    next : (behind s st (flat_map group_items gs)).next ≡ st.next
    named : (behind s st (flat_map group_items gs)).named ≡ st.named + length (flat_map (λ (ns : List Name). ns) gs)

  groups_pass : (gs : List (List Name)) (st : Reached) → st.groups ≡ length gs → Rest gs st.next st.key_before st.from → ArePassed st gs
  groups_pass [] st h are = record {
    none = none_both (end_told st.next zero st.from) [] (end_passes (nth_file s.outputs (st.next - 1)) (st.next - 1) st.from are.output_is) refl;
    next = refl;
    named = omega arith;
  }
  groups_pass (ns ∷ gs) st h are =
      let text : List ℕ = text_under s.rules.text s.triples ns in
      let k : List ℕ = key_of s.triples ns in
      let new : Reached = behind s st (group_items ns) in
      let output : List ℕ = nth_file s.outputs (st.next - 1) in
      let told_is = group_told s st ns are.groups.0 are.past.0 in
      let b = told_is.1 in
      let fewer : new.groups ≡ length gs = omega (arith, b.groups, h) in
      let rest : Rest gs st.next (Some k) (st.from + length text) =
      record { groups = are.groups.1; keys_rise = are.keys_rise.1; past = less_past k (map (key_of s.triples) gs) are.keys_rise.0; output_is = text_behind output st.from text (flat_map (text_under s.rules.text s.triples) gs) are.output_is } in
      let later = groups_pass gs new fewer (subst3 (Rest gs) (sym b.next) (sym b.key_before) (sym b.from) rest) in
      let ends : end_told st.next (st.groups - 1) (st.from + length text) ≡ [] = sym (end_behind st new k text (length ns) (length gs) b h) ∙ none_left (end_told new.next (length gs) new.from) _ later.none in
      let texts : text_told s st text ≡ [] = none_both (text_tests output (st.next - 1) st.from text) _ (text_passes output (st.next - 1) st.from text (flat_map (text_under s.rules.text s.triples) gs) are.output_is) ends in
      let moved : behind s st (flat_map group_items (ns ∷ gs)) ≡ behind s new (flat_map group_items gs) = behind_append s st (group_items ns) (flat_map group_items gs) in
      record {
        none = told_append s st (group_items ns) (flat_map group_items gs) ∙ none_both (told s st (group_items ns)) _ (told_is.0 ∙ texts) (none_right (end_told new.next (length gs) new.from) _ later.none);
        next = ap (λ (w : Reached). w.next) moved ∙ (later.next ∙ b.next);
        named = ap (λ (w : Reached). w.named) moved ∙ (later.named ∙ omega (arith, b.named, length-append ns (flat_map (λ (ms : List Name). ms) gs)));
      }

  -- ---- a partition

  abbrev opened : Reached → ℕ → Reached
  opened st n = record st { next = st.next + 1; groups = n; group = 0; key_before = None; from = 0 }

  next_is : (n : ℕ) → n + 1 - 1 ≡ n
  next_is n = omega arith

  part_told_is : (st : Reached) (gs : List (List Name)) → told s st (part_items gs) ≡ groups_told (opened st (length gs)) gs
  part_told_is st gs = ap (λ n. end_tests (nth_file s.outputs n) n (length gs) 0 ++ told s (opened st (length gs)) (flat_map group_items gs)) (sym (next_is st.next))

  abbrev Part : ℕ → List (List Name) → Type 0
  Part p gs = IsGoodPart s.rules s.triples p gs (nth_file s.outputs p)

  part_good : (st : Reached) (gs : List (List Name)) → HaveEntries gs → told s st (part_items gs) ≡ [] → Part st.next gs
  part_good st gs some none =
      let g = groups_good gs (opened st (length gs)) some refl (sym (part_told_is st gs) ∙ none) in
      subst (λ n. Part n gs) (next_is st.next) (record { groups = record { each = g.groups; keys_rise = g.keys_rise }; output_is = g.output_is })

  part_pass : (st : Reached) (gs : List (List Name)) → Part st.next gs → ArePassed (opened st (length gs)) gs
  part_pass st gs good =
      let g : Part (st.next + 1 - 1) gs = subst (λ n. Part n gs) (sym (next_is st.next)) good in
      groups_pass gs (opened st (length gs)) refl (record { groups = g.groups.each; keys_rise = g.groups.keys_rise; past = all_none (map (key_of s.triples) gs); output_is = g.output_is })

  -- ---- all partitions

  pub parts_good : (parts : List (List (List Name))) (st : Reached) → AllByRecursion HaveEntries parts → told s st (flat_map part_items parts) ≡ []
      → EachFrom (λ p gs. IsGoodPart s.rules s.triples p gs (nth_file s.outputs p)) st.next parts
  parts_good [] st some none = tt
  parts_good (gs ∷ parts) st some none =
      let new : Reached = behind s st (part_items gs) in
      let both : told s st (part_items gs) ++ told s new (flat_map part_items parts) ≡ [] = sym (told_append s st (part_items gs) (flat_map part_items parts)) ∙ none in
      let good = part_good st gs some.0 (none_left (told s st (part_items gs)) _ both) in
      let next : new.next ≡ suc st.next = (part_pass st gs good).next ∙ (omega arith) in (
        good,
        subst (λ n. EachFrom Part n parts) next (parts_good parts new some.1 (none_right (told s st (part_items gs)) _ both)),
      )

  pub record PartsPassed (st : Reached) (parts : List (List (List Name))) : Type 0 where
    pub none : told s st (flat_map part_items parts) ≡ []
    pub named : (behind s st (flat_map part_items parts)).named ≡ st.named + length (entries_of parts)

  pub parts_pass : (parts : List (List (List Name))) (st : Reached) → EachFrom (λ p gs. IsGoodPart s.rules s.triples p gs (nth_file s.outputs p)) st.next parts → PartsPassed st parts
  parts_pass [] st each = record { none = refl; named = omega arith }
  parts_pass (gs ∷ parts) st each =
      let new : Reached = behind s st (part_items gs) in
      let here = part_pass st gs each.0 in
      let next : new.next ≡ suc st.next = here.next ∙ (omega arith) in
      let later = parts_pass parts new (subst (λ n. EachFrom Part n parts) (sym next) each.1) in
      let moved : behind s st (flat_map part_items (gs ∷ parts)) ≡ behind s new (flat_map part_items parts) = behind_append s st (part_items gs) (flat_map part_items parts) in
      record {
        none = told_append s st (part_items gs) (flat_map part_items parts) ∙ none_both (told s st (part_items gs)) _ (part_told_is st gs ∙ here.none) later.none;
        named = ap (λ (w : Reached). w.named) moved ∙ (later.named ∙ omega (arith, here.named, length-append (flat_map (λ (ns : List Name). ns) gs) (entries_of parts)));
      }

-- ---- the end

-- before the end there is no other fault than those of the tests
cons_faults : (s : Subject) (at : ℕ) (st : Reached) (i : Item) (is : List Item) → (i ≡ End → ⊥) → part_faults s at st (i ∷ is) ≡ tests s st i ++ part_faults s at (after s st i) is
cons_faults s at st End is h = absurd (h refl)
cons_faults s at st i is h = refl

abbrev pub NoneEnds : List Item → Type 0
NoneEnds is = AllByRecursion (λ i. i ≡ End → ⊥) is

pub faults_append : (s : Subject) (at : ℕ) (st : Reached) (is js : List Item) → NoneEnds is → part_faults s at st (is ++ js) ≡ told s st is ++ part_faults s at (behind s st is) js
faults_append s at st [] js h = refl
faults_append s at st (i ∷ is) js h =
    cons_faults s at st i (is ++ js) h.0
    ∙ (ap (λ w. tests s st i ++ w) (faults_append s at (after s st i) is js h.1)
    ∙ sym (append_assoc (tests s st i) (told s (after s st i) is) (part_faults s at (behind s (after s st i) is) js)))

none_append : (is js : List Item) → NoneEnds is → NoneEnds js → NoneEnds (is ++ js)
none_append [] js h g = g
none_append (i ∷ is) js h g = (h.0, none_append is js h.1 g)

none_entry : (ns : List Name) → NoneEnds (map Entry ns)
none_entry [] = tt
none_entry (n ∷ ns) = (λ e. cc, none_entry ns)

none_groups : (gs : List (List Name)) → NoneEnds (flat_map group_items gs)
none_groups [] = tt
none_groups (ns ∷ gs) = none_append (group_items ns) (flat_map group_items gs) (λ e. cc, none_entry ns) (none_groups gs)

pub none_parts : (parts : List (List (List Name))) → NoneEnds (flat_map part_items parts)
none_parts [] = tt
none_parts (gs ∷ parts) = none_append (part_items gs) (flat_map part_items parts) (λ e. cc, none_groups gs) (none_parts parts)

pub parts_faults : (s : Subject) (at : ℕ) (st : Reached) (parts : List (List (List Name)))
    → part_faults s at st (flat_map part_items parts ++ End ∷ []) ≡ told s st (flat_map part_items parts) ++ tests s (behind s st (flat_map part_items parts)) End
parts_faults s at st parts = faults_append s at st (flat_map part_items parts) (End ∷ []) (none_parts parts)
