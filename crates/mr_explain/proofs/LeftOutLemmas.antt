-- The records that a rising list names are those that it leaves out, in their order.
use Rattle.std.proofs.Common.{◌≡◌, cond, eqb, eqb-true, Bool, true, false, ◌&&◌, ◌||◌, List, [], ◌∷◌, Some, filter, map, refl, sym, ap, ◌∙◌, subst}
use Rattle.std.proofs.lemmas.Bool.{false≢true, false_from_ne_true}
use Rattle.std.proofs.lemmas.Cmp.{nat_cmp_total, on_total, then_total}
use Rattle.std.specs.Cmp.{IsTotalOrder}
use Rattle.std.specs.List.{AllByRecursion, cons_option, filter_map}
use Rattle.std.specs.Ordering.{ordering_reverse}
use Rattle.std.specs.declared.cmp.Ordering.TheVariants.{Less, Greater}
use Rattle.mr_bytes.specs.declared.RecordName.{RecordName}
use Rattle.mr_bytes.specs.Lists.{Rises}
use Rattle.mr_bytes.specs.Order.{record_order}
use Rattle.mr_splits.specs.Named.{NamedRecord, is_left_out, named_records}
use Rattle.mr_splits.specs.Cut.{has_record_name, is_record, record_named}
use Rattle.mr_splits.proofs.RisingLemmas.{names-rise}
use Rattle.mr_explain.specs.Laws.{LeftOutAreNamed}

record_total : IsTotalOrder record_order
record_total = then_total (on_total (λ (a : RecordName). a.split) nat_cmp_total) (on_total (λ (a : RecordName). a.rec) nat_cmp_total)

never-less : (a : RecordName) → record_order a a ≡ Less → ⊥
never-less a less = let no : Less ≡ Greater = sym less ∙ record_total.antisymm a a ∙ ap ordering_reverse less in cc

-- the name `s` is that of the record
abbrev names : RecordName → NamedRecord → Bool
names s r = has_record_name s r

both : (a b : Bool) → (a && b) ≡ true → (a ≡ true) × (b ≡ true)
both true b h = (refl, h)
both false b h = absurd (false≢true h)

same-name : (s : RecordName) (r : NamedRecord) → names s r ≡ true → s ≡ r.name
same-name s r h =
    let parts = both (eqb s.split r.name.split) (eqb s.rec r.name.rec) h in
    let splits : s.split ≡ r.name.split = eqb-true s.split r.name.split parts.0 in
    let recs : s.rec ≡ r.name.rec = eqb-true s.rec r.name.rec parts.1 in
    ap (λ n. record { split = n; rec = s.rec }) splits ∙ ap (λ n. record { split = r.name.split; rec = n }) recs

past : (s : RecordName) (r : NamedRecord) → record_order r.name s ≡ Less → names s r ≡ false
past s r less = false_from_ne_true (names s r) (λ h. never-less r.name (subst (λ n. record_order r.name n ≡ Less) (same-name s r h) less))

before : (s : RecordName) (r : NamedRecord) → record_order s r.name ≡ Less → names s r ≡ false
before s r less = false_from_ne_true (names s r) (λ h. never-less r.name (subst (λ n. record_order n r.name ≡ Less) (same-name s r h) less))

-- ---- a record that no name of a list tells

abbrev NoneNames : NamedRecord → List RecordName → Type 0
NoneNames r ss = AllByRecursion (λ s. names s r ≡ false) ss

found-later : (r : NamedRecord) (rs : List NamedRecord) (ss : List RecordName) → NoneNames r ss
    → filter_map (record_named (r ∷ rs)) ss ≡ filter_map (record_named rs) ss
found-later r rs [] none = refl
found-later r rs (s ∷ ss) none =
    ap (λ t. cons_option (cond t (Some r) (record_named rs s)) (filter_map (record_named (r ∷ rs)) ss)) none.0
    ∙ ap (cons_option (record_named rs s)) (found-later r rs ss none.1)

kept-by : (r : NamedRecord) (ss : List RecordName) → NoneNames r ss → is_left_out ss r.name ≡ false
kept-by r [] none = refl
kept-by r (s ∷ ss) none = ap (λ t. t || is_left_out ss r.name) none.0 ∙ kept-by r ss none.1

-- a name before all records leaves none of them out
abbrev left_out : List RecordName → List NamedRecord → List NamedRecord
left_out ss rs = filter (λ (r : NamedRecord). is_left_out ss r.name) rs

first-past : (s : RecordName) (ss : List RecordName) (rs : List NamedRecord) → AllByRecursion (λ n. record_order s n ≡ Less) (map (λ (r : NamedRecord). r.name) rs)
    → left_out (s ∷ ss) rs ≡ left_out ss rs
first-past s ss [] all = refl
first-past s ss (r ∷ rs) all =
    ap (λ t. cond (t || is_left_out ss r.name) (r ∷ left_out (s ∷ ss) rs) (left_out (s ∷ ss) rs)) (before s r all.0)
    ∙ ap (λ l. cond (is_left_out ss r.name) (r ∷ l) l) (first-past s ss rs all.1)

nothing-left-out : (rs : List NamedRecord) → [] ≡ left_out [] rs
nothing-left-out [] = refl
nothing-left-out (r ∷ rs) = nothing-left-out rs

-- ---- a name of a later record

below : (a s : RecordName) (rs : List NamedRecord) → AllByRecursion (λ n. record_order a n ≡ Less) (map (λ (r : NamedRecord). r.name) rs)
    → is_record rs s ≡ true → record_order a s ≡ Less
below a s [] all h = absurd (false≢true h)
below a s (r ∷ rs) all h = by (names s r) refl h (below a s rs all.1)
  where
    by : (t : Bool) → names s r ≡ t → (t || is_record rs s) ≡ true → (is_record rs s ≡ true → record_order a s ≡ Less) → record_order a s ≡ Less
    by true is some later = subst (λ n. record_order a n ≡ Less) (sym (same-name s r is)) all.0
    by false is some later = later some

none-past : (r : NamedRecord) (s : RecordName) (ss : List RecordName) → record_order r.name s ≡ Less → AllByRecursion (λ n. record_order s n ≡ Less) ss → NoneNames r ss
none-past r s [] less all = tt
none-past r s (n ∷ ss) less all = (past n r (record_total.trans r.name s n less all.0), none-past r s ss less all.1)

none-behind : (r : NamedRecord) (ss : List RecordName) → AllByRecursion (λ n. record_order r.name n ≡ Less) ss → NoneNames r ss
none-behind r [] all = tt
none-behind r (n ∷ ss) all = (past n r all.0, none-behind r ss all.1)

abbrev AreRecords : List NamedRecord → List RecordName → Type 0
AreRecords rs ss = AllByRecursion (λ name. is_record rs name ≡ true) ss

records-later : (r : NamedRecord) (rs : List NamedRecord) (ss : List RecordName) → NoneNames r ss → AreRecords (r ∷ rs) ss → AreRecords rs ss
records-later r rs [] none are = tt
records-later r rs (s ∷ ss) none are = (sym (ap (λ t. t || is_record rs s) none.0) ∙ are.0, records-later r rs ss none.1 are.1)

named-left-out : (rs : List NamedRecord) (ss : List RecordName) → Rises record_order (map (λ (r : NamedRecord). r.name) rs) → Rises record_order ss
    → AreRecords rs ss → filter_map (record_named rs) ss ≡ left_out ss rs
named-left-out rs [] up rising are = nothing-left-out rs
named-left-out [] (s ∷ ss) up rising are = absurd (false≢true are.0)
named-left-out (r ∷ rs) (s ∷ ss) up rising are =
    by (names s r) refl (λ names_later. named-left-out rs ss up.1 rising.1 names_later) (λ names_later. named-left-out rs (s ∷ ss) up.1 rising names_later)
  where
    by : (t : Bool) → names s r ≡ t → (AreRecords rs ss → filter_map (record_named rs) ss ≡ left_out ss rs)
        → (AreRecords rs (s ∷ ss) → filter_map (record_named rs) (s ∷ ss) ≡ left_out (s ∷ ss) rs)
        → filter_map (record_named (r ∷ rs)) (s ∷ ss) ≡ left_out (s ∷ ss) (r ∷ rs)
    by true is here later =
        let name : s ≡ r.name = same-name s r is in
        let none : NoneNames r ss = none-behind r ss (subst (λ (n : RecordName). AllByRecursion (λ m. record_order n m ≡ Less) ss) name rising.0) in
        ap (λ t. cons_option (cond t (Some r) (record_named rs s)) (filter_map (record_named (r ∷ rs)) ss)) is
        ∙ ap (λ l. r ∷ l) (found-later r rs ss none ∙ here (records-later r rs ss none are.1)
        ∙ sym (first-past s ss rs (subst (λ (n : RecordName). AllByRecursion (λ m. record_order n m ≡ Less) (map (λ (x : NamedRecord). x.name) rs)) (sym name) up.0)))
        ∙ sym (ap (λ t. cond (t || is_left_out ss r.name) (r ∷ left_out (s ∷ ss) rs) (left_out (s ∷ ss) rs)) is)
    by false is here later =
        let there : is_record rs s ≡ true = sym (ap (λ t. t || is_record rs s) is) ∙ are.0 in
        let less : record_order r.name s ≡ Less = below r.name s rs up.0 there in
        let none : NoneNames r (s ∷ ss) = (is, none-past r s ss less rising.0) in
        found-later r rs (s ∷ ss) none ∙ later (records-later r rs (s ∷ ss) none are)
        ∙ sym (ap (λ t. cond t (r ∷ left_out (s ∷ ss) rs) (left_out (s ∷ ss) rs)) (kept-by r (s ∷ ss) none))

pub left-out-are-named : LeftOutAreNamed
left-out-are-named size files skips some rising exist =
    named-left-out (named_records size files) skips (names-rise size files some) rising exist
