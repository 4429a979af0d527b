-- Lists of faults, and their first.
use Rattle.std.proofs.Common.{◌≡◌, ℕ, zero, suc, ◌+◌, ◌-◌, ◌≤◌, Some, List, [], ◌∷◌, ◌++◌, length, take, refl, ap, sym, ◌∙◌, inl, inr, arith, Bool, true, false, cond, ◌&&◌}
use Rattle.std.specs.Prelude.{nat_eq}
use Rattle.std.specs.List.{common_prefix_len}
use Rattle.std.specs.Cmp.Lexicographic.{pointwise}
use Rattle.std.proofs.lemmas.Bool.{false≢true}
use Rattle.mr_verdict.specs.declared.answers.No.{No}
use Rattle.mr_bytes.specs.declared.Name.{Name}
use Rattle.mr_bytes.specs.Pairs.{Triple}
use Rattle.std.specs.Ordering.{is_lt}
use Rattle.std.specs.Str.{bytes_eq}
use Rattle.mr_bytes.specs.Order.{name_order}
use Rattle.mr_sequential.proofs.KeyLaws.{bytes_eq-same}
use Rattle.mr_verdict.specs.declared.answers.No.TheVariants.{EntryOrder, KeyDiffers}
use Rattle.mr_verdict.specs.Verdict.{Reached, Subject, passes, after_entry, behind_group, entry_tests, first_tests, group_tests, later_tests, order_tests, with_entry, first}
use Rattle.mr_verdict.specs.Steps.{Answers}

pub starts_not : (xs ys : List ℕ) → pointwise nat_eq xs (take (length xs) ys) ≡ false → common_prefix_len nat_eq xs ys ≡ length xs → ⊥
starts_not [] ys h e = false≢true (sym h)
starts_not (x ∷ xs) [] h e = absurd (omega (arith, e))
starts_not (x ∷ xs) (y ∷ ys) h e = by (nat_eq x y) h e (starts_not xs ys)
  where
    by : (b : Bool) → (b && pointwise nat_eq xs (take (length xs) ys)) ≡ false → cond b (1 + common_prefix_len nat_eq xs ys) 0 ≡ length (x ∷ xs) → (pointwise nat_eq xs (take (length xs) ys) ≡ false → common_prefix_len nat_eq xs ys ≡ length xs → ⊥) → ⊥
    by true h e more = more h (omega (arith, e))
    by false h e more = absurd (omega (arith, e))

pub first_more : (fs gs : List No) → fs ≡ [] → first (fs ++ gs) ≡ first gs
first_more fs gs e = ap (λ w. first (w ++ gs)) e

pub first_found : (fs gs : List No) (f : No) → first fs ≡ Some f → first (fs ++ gs) ≡ Some f
first_found [] gs f e = absurd (cc e)
first_found (g ∷ fs) gs f e = e

pub told_left : (fs gs : List No) (f : No) → Answers fs f → Answers (fs ++ gs) f
told_left fs gs f (inl e) = inl e
told_left fs gs f (inr e) = inr (first_found fs gs f e)

pub told_right : (fs gs : List No) (f : No) → fs ≡ [] → Answers gs f → Answers (fs ++ gs) f
told_right fs gs f none (inl e) = inl e
told_right fs gs f none (inr e) = inr (first_more fs gs none ∙ e)

pub told_is : (fs gs : List No) (f : No) → first gs ≡ first fs → Answers fs f → Answers gs f
told_is fs gs f same (inl e) = inl e
told_is fs gs f same (inr e) = inr (same ∙ e)

pub failed : (b : Bool) (f : No) → b ≡ false → Answers (passes b f) f
failed b f e = inr (ap (λ t. first (passes t f)) e)

pub fine : (b : Bool) (f : No) → b ≡ true → passes b f ≡ []
fine b f e = ap (λ t. passes t f) e

pub both_fine : (fs gs : List No) → fs ≡ [] → gs ≡ [] → fs ++ gs ≡ []
both_fine fs gs e d = ap (λ w. w ++ gs) e ∙ d

-- ---- the cases of an entry

pub order_zero : (part : List ℕ → ℕ) (p : ℕ) (st : Reached) (n : Name) (key : List ℕ) (e : ℕ) → e ≡ 0 → order_tests part p st n key e ≡ first_tests part p st.group st.key_before key
order_zero part p st n key e h = ap (order_tests part p st n key) h

pub with_zero : (st : Reached) (t : Triple) (e : ℕ) → e ≡ 0 → with_entry st t e ≡ with_entry st t 0
with_zero st t e h = ap (with_entry st t) h

pub order_suc : (part : List ℕ → ℕ) (p : ℕ) (st : Reached) (n : Name) (key : List ℕ) (e : ℕ) → 1 ≤ e → order_tests part p st n key e ≡ later_tests p st.group e st.before n st.key key
order_suc part p st n key zero h = absurd (omega arith)
order_suc part p st n key (suc e) h = refl

pub with_suc : (st : Reached) (t : Triple) (e : ℕ) → 1 ≤ e → with_entry st t e ≡ record st { entry = e + 1; entries = st.entries - 1; before = t.name; values = st.values ++ t.value ∷ []; named = st.named + 1 }
with_suc st t zero h = absurd (omega arith)
with_suc st t (suc e) h = refl

-- ---- an entry within a group

pub group_later : (s : Subject) (p : ℕ) (st : Reached) (n : ℕ) → 1 ≤ n → group_tests s p st n ≡ []
group_later s p st zero h = absurd (omega arith)
group_later s p st (suc n) h = refl

pub behind_later : (s : Subject) (st : Reached) (n : ℕ) → 1 ≤ n → behind_group s st n ≡ st
behind_later s st zero h = absurd (omega arith)
behind_later s st (suc n) h = refl

-- where it has the group's key, its name alone is tested
pub within_tests : (s : Subject) (p : ℕ) (st : Reached) (t : Triple) → 1 ≤ st.entry → 2 ≤ st.entries → t.key ≡ st.key → is_lt (name_order st.before t.name) ≡ true → entry_tests s p st t.name (Some t) ≡ []
within_tests s p st t some more key past =
    both_fine (order_tests s.rules.part p st t.name t.key st.entry) (group_tests s p (with_entry st t st.entry) (st.entries - 1))
    (order_suc s.rules.part p st t.name t.key st.entry some
    ∙ both_fine (passes (is_lt (name_order st.before t.name)) (EntryOrder p st.group st.entry)) (passes (bytes_eq t.key st.key) (KeyDiffers p st.group st.entry)) (fine _ _ past)
    (fine _ _ (ap (λ w. bytes_eq w st.key) key ∙ bytes_eq-same st.key)))
    (group_later s p (with_entry st t st.entry) (st.entries - 1) (omega arith))

pub within_after : (s : Subject) (st : Reached) (t : Triple) → 1 ≤ st.entry → 2 ≤ st.entries
    → after_entry s st (Some t) ≡ record st { entry = st.entry + 1; entries = st.entries - 1; before = t.name; values = st.values ++ t.value ∷ []; named = st.named + 1 }
within_after s st t some more = behind_later s (with_entry st t st.entry) (st.entries - 1) (omega arith) ∙ with_suc st t st.entry some
