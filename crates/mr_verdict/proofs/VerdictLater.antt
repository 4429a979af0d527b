-- A fault of a partition stays, whatever the later outputs are.
use Rattle.std.proofs.Common.{◌≡◌, ℕ, zero, suc, ◌+◌, ◌-◌, ◌<◌, ◌≤◌, Bool, true, false, Option, Some, None, Result, List, [], ◌∷◌, ◌++◌, length, take, drop, refl, ap, sym, ◌∙◌, subst, arith, nat_eq, nat_le, ◌==◌}
use Rattle.std.specs.List.{AllByRecursion, common_prefix_len}
use Rattle.std.specs.Ordering.{is_lt}
use Rattle.std.specs.Str.{bytes_eq}
use Rattle.mr_bytes.specs.declared.Name.{Name}
use Rattle.mr_bytes.specs.Order.{name_order}
use Rattle.mr_input.specs.Files.{nth_file}
use Rattle.mr_certform.specs.declared.grammar_state.Item.{Item}
use Rattle.mr_certform.specs.declared.grammar_state.Item.TheVariants.{Groups, Entries, Entry, End}
use Rattle.mr_certform.specs.Spelling.{items_of, is_ended, stop}
use Rattle.mr_bytes.specs.Pairs.{Triple}
use Rattle.mr_sequential.specs.Good.{named}
use Rattle.mr_verdict.specs.declared.answers.No.{No}
use Rattle.mr_verdict.specs.declared.answers.No.TheVariants as Fault
use Rattle.mr_verdict.specs.Verdict.{Accepted, Reached, Subject, passes, start, tests, after, text_tests, end_tests, is_key_past, order_tests, with_entry, entry_tests, group_tests, subject_of, case_of, verdict_of, first, entries_in}
use Rattle.mr_verdict.specs.VerdictLaws.{told, or_else, fault_of, skips_in, piece, parts_in, front_faults, part_fault, least_fault, back_fault, before_fault, SameBy, SameFor, SameTo, SameInPart, SameFrom, SameUnless, partition_named, LaterOutputsDontMatter}
use Rattle.mr_verdict.proofs.VerdictOutputs.{next_entry, only_compared_matters}
use Rattle.mr_verdict.proofs.VerdictPlace.{fault_by_place}

-- ---- what a partition's tests tell names the partition

-- all faults name this partition
abbrev AllOf : ℕ → List No → Type 0
AllOf p faults = AllByRecursion (λ f. partition_named f ≡ Some p) faults

all_append : (p : ℕ) (xs ys : List No) → AllOf p xs → AllOf p ys → AllOf p (xs ++ ys)
all_append p [] ys a b = b
all_append p (x ∷ xs) ys a b = (a.0, all_append p xs ys a.1 b)

all_passes : (p : ℕ) (b : Bool) (fault : No) → partition_named fault ≡ Some p → AllOf p (passes b fault)
all_passes p true fault e = tt
all_passes p false fault e = (e, tt)

all_first : (p : ℕ) (faults : List No) (fault : No) → AllOf p faults → ◌≡◌ {A = Option No} (first faults) (Some fault) → partition_named fault ≡ Some p
all_first p [] fault all e = absurd (cc)
all_first p (f ∷ faults) fault all e = let same : f ≡ fault = cc in subst (λ w. partition_named w ≡ Some p) same all.0

module _ (s : Subject) where
  end_all : (output : List ℕ) (p groups from : ℕ) → AllOf p (end_tests output p groups from)
  end_all output p zero from = all_passes p (nat_le (length output) from) (Fault.OutputDiffers p from) refl
  end_all output p (suc groups) from = tt

  group_all : (p : ℕ) (st : Reached) (m : ℕ) → AllOf p (group_tests s p st m)
  group_all p st zero =
      let text : List ℕ = s.rules.text st.key st.values in
      let output : List ℕ = nth_file s.outputs p in
      all_append p (text_tests output p st.from text) (end_tests output p (st.groups - 1) (st.from + length text))
      (all_passes p (common_prefix_len nat_eq text (drop st.from output) == length text) (Fault.OutputDiffers p (st.from + common_prefix_len nat_eq text (drop st.from output))) refl)
      (end_all output p (st.groups - 1) (st.from + length text))
  group_all p st (suc m) = tt

  order_all : (p : ℕ) (st : Reached) (n : Name) (key : List ℕ) (e : ℕ) → AllOf p (order_tests s.rules.part p st n key e)
  order_all p st n key zero =
      all_append p (passes (s.rules.part key == p) (Fault.WrongPartition p st.group 0)) (passes (is_key_past st.key_before key) (Fault.KeyOrder p st.group 0)) (all_passes p _ (Fault.WrongPartition p st.group 0) refl)
      (all_passes p _ (Fault.KeyOrder p st.group 0) refl)
  order_all p st n key (suc e) =
      all_append p (passes (is_lt (name_order st.before n)) (Fault.EntryOrder p st.group (suc e))) (passes (bytes_eq key st.key) (Fault.KeyDiffers p st.group (suc e))) (all_passes p _ (Fault.EntryOrder p st.group (suc e)) refl)
      (all_passes p _ (Fault.KeyDiffers p st.group (suc e)) refl)

  entry_all : (p : ℕ) (st : Reached) (n : Name) (o : Option Triple) → AllOf p (entry_tests s p st n o)
  entry_all p st n None = (refl, tt)
  entry_all p st n (Some t) =
      all_append p (order_tests s.rules.part p st n t.key st.entry) (group_tests s p (with_entry st t st.entry) (st.entries - 1)) (order_all p st n t.key st.entry) (group_all p (with_entry st t st.entry) (st.entries - 1))

  told_all : (is : List Item) (st : Reached) → AllOf (st.next - 1) (told s st (piece is))
  told_all [] st = tt
  told_all (Groups n ∷ is) st = tt
  told_all (End ∷ is) st = tt
  told_all (Entry n ∷ is) st =
      let next : (after s st (Entry n)).next ≡ st.next = next_entry s [] st (named s.triples n) in
      all_append (st.next - 1) (tests s st (Entry n)) (told s (after s st (Entry n)) (piece is)) (entry_all (st.next - 1) st n (named s.triples n))
      (subst (λ k. AllOf (k - 1) (told s (after s st (Entry n)) (piece is))) next (told_all is (after s st (Entry n))))
  told_all (Entries n ∷ is) st = told_all is (after s st (Entries n))
  told_all (i ∷ is) st = told_all is st

  part_names : (p n : ℕ) (is : List Item) (fault : No) → part_fault s p (Groups n ∷ piece is) ≡ Some fault → partition_named fault ≡ Some p
  part_names p n is fault e =
      let here : p + 1 - 1 ≡ p = omega arith in
      all_first p (end_tests (nth_file s.outputs p) p n 0 ++ told s (after s (record start { next = p }) (Groups n)) (piece is)) fault
      (all_append p (end_tests (nth_file s.outputs p) p n 0) (told s (after s (record start { next = p }) (Groups n)) (piece is)) (end_all (nth_file s.outputs p) p n 0)
      (subst (λ k. AllOf k (told s (after s (record start { next = p }) (Groups n)) (piece is))) here (told_all is (after s (record start { next = p }) (Groups n))))) e

  -- what is told behind the partitions names none
  back_names : (at n : ℕ) (b : Bool) (fault : No) (p : ℕ) → back_fault s at n b ≡ Some fault → partition_named fault ≡ Some p → ⊥
  back_names at n true fault p e names = by (nat_le (length s.triples) n) e
    where
      by : (t : Bool) → ◌≡◌ {A = Option No} (first (passes t (Fault.Unnamed (length s.triples) n))) (Some fault) → ⊥
      by true e = cc
      by false e = let same : Fault.Unnamed (length s.triples) n ≡ fault = cc in none_names (subst (λ w. partition_named w ≡ Some p) (sym same) names)
        where
          none_names : ◌≡◌ {A = Option ℕ} None (Some p) → ⊥
          none_names e = cc
  back_names at n false fault p e names = let same : Fault.Malformed at ≡ fault = cc in none_names (subst (λ w. partition_named w ≡ Some p) (sym same) names)
    where
      none_names : ◌≡◌ {A = Option ℕ} None (Some p) → ⊥
      none_names e = cc

  -- ---- a whole output serves

  whole_by : (groups from : ℕ) (output other : List ℕ) → other ≡ output → SameBy groups from output other
  whole_by zero from output other e = e
  whole_by (suc groups) from output other e = ap (take from) e

  same_for : (fault : No) (st : Reached) (output other : List ℕ) → SameTo fault output other → SameFor fault st output other
  same_for (Fault.OutputDiffers p at) st output other e = e
  same_for _ st output other e = whole_by st.groups st.from output other e

  module _ (others : List (List ℕ)) (fault : No) (p : ℕ) (names : partition_named fault ≡ Some p) (before : (q : ℕ) → q < p → nth_file others q ≡ nth_file s.outputs q) (here : SameTo fault (nth_file s.outputs p) (nth_file others p)) where
    same_from : (is : List Item) (k : ℕ) (back : Option No) → (back ≡ Some fault → ⊥) → or_else (least_fault s k (parts_in is)) back ≡ Some fault → (k ≤ p) × SameFrom s k (parts_in is) others
    same_from [] k back none e = absurd (none e)
    same_from (Groups n ∷ is) k back none e = by (part_fault s k (Groups n ∷ piece is)) refl e (same_from is (k + 1) back none)
      where
        by : (o : Option No) → part_fault s k (Groups n ∷ piece is) ≡ o → or_else (or_else o (least_fault s (k + 1) (parts_in is))) back ≡ Some fault
            → (or_else (least_fault s (k + 1) (parts_in is)) back ≡ Some fault → (k + 1 ≤ p) × SameFrom s (k + 1) (parts_in is) others)
            → (k ≤ p) × SameInPart o (before_fault s (record start { next = k }) (Groups n ∷ piece is)) (nth_file s.outputs k) (nth_file others k) (SameFrom s (k + 1) (parts_in is) others)
        by (Some f) is_ e rest =
            let same : f ≡ fault = cc in
            let named_ : partition_named fault ≡ Some k = subst (λ w. partition_named w ≡ Some k) same (part_names k n is f is_) in
            let both : Some p ≡ Some k = sym names ∙ named_ in
            let place : p ≡ k = cc in
            let last : Reached = before_fault s (record start { next = k }) (Groups n ∷ piece is) in
            let there : SameTo f (nth_file s.outputs k) (nth_file others k) = subst (λ w. SameTo w (nth_file s.outputs k) (nth_file others k)) (sym same) (subst (λ w. SameTo fault (nth_file s.outputs w) (nth_file others w)) place here) in
            (omega arith, same_for f last (nth_file s.outputs k) (nth_file others k) there)
        by None is_ e rest =
            let r = rest e in
            let last : Reached = before_fault s (record start { next = k }) (Groups n ∷ piece is) in
            let less : k < p = omega (arith, r.0) in
            (omega arith, (whole_by last.groups last.from (nth_file s.outputs k) (nth_file others k) (before k less), r.1))
    same_from (i ∷ is) k back none e = same_from is k back none e

pub later_outputs_dont_matter : LaterOutputsDontMatter
later_outputs_dont_matter request files outputs others bytes fault p are_bytes long says names before here =
    let is : List Item = items_of bytes in
    let s : Subject = subject_of (case_of request files outputs bytes) (skips_in (items_of bytes)) in
    let told_ : ◌≡◌ {A = Option No} (fault_of (verdict_of request files outputs bytes)) (Some fault) = ap (λ (v : Result Accepted No). fault_of v) says in
    let parts : ◌≡◌ {A = Option No}
    (or_else (first (front_faults (case_of request files outputs bytes) (items_of bytes))) (or_else (least_fault s 0 (parts_in is)) (back_fault s (stop bytes) (entries_in is) (is_ended is)))) (Some fault) =
    sym (fault_by_place request files outputs bytes are_bytes) ∙ told_ in
    only_compared_matters request files outputs others bytes are_bytes long
    (behind_front (first (front_faults (case_of request files outputs bytes) (items_of bytes))) (or_else (least_fault s 0 (parts_in is)) (back_fault s (stop bytes) (entries_in is) (is_ended is))) (SameFrom s 0 (parts_in is) others)
    (λ e. (same_from s others fault p names before here (items_of bytes) 0 (back_fault s (stop bytes) (entries_in is) (is_ended is)) (λ f. back_names s (stop bytes) (entries_in is) (is_ended is) fault p f names) e).1) parts)
    ∙ says
  where
    behind_front : (o a : Option No) (Same : Type 0) → (a ≡ Some fault → Same) → or_else o a ≡ Some fault → SameUnless o Same
    behind_front (Some f) a Same g e = tt
    behind_front None a Same g e = g e
