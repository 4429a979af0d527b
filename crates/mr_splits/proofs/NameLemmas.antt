-- Records by their names.
use Rattle.std.proofs.Common.{◌≡◌, ◌≢◌, ℕ, zero, suc, ◌+◌, ◌<◌, ◌≤◌, Bool, true, false, cond, eqb, ltb, ◌&&◌, ◌||◌, Option, Some, None, List, [], ◌∷◌, length, get_or, drop, set, refl, sym, ◌∙◌, ap, subst, arith, inl, inr, filter, replicate}
use Rattle.std.proofs.lemmas.Bool.{cases_Bool, cases_eq, cases_lt, eq-eqb, ne_eqb, eqb-true, lt-ltb, le-ltb, and_parts, and_from, or_parts, false≢true}
use Rattle.std.proofs.lemmas.List.{get_or-set_same, get_or-set_other, same_lists, get_or-map, length-map, get_or_default, nil_from_length}
use Rattle.std.proofs.lemmas.List.Folds.{list_any_at}
use Rattle.std.specs.List.{find, list_any, slice_get}
use Rattle.mr_bytes.specs.declared.RecordName.{RecordName}
use Rattle.mr_input.specs.Files.{split_total}
use Rattle.mr_splits.specs.Named.{NamedRecord, named_records, of_split, is_left_out}
use Rattle.mr_splits.specs.Cut.{nth_named, has_record_name, is_record, record_named, left_out_flags, flags_of}
use Rattle.mr_splits.proofs.JoinedLemmas.{splits-all}
use Rattle.mr_splits.proofs.NumberLemmas.{CountFrom, of_split-before, numbers-count}
use Rattle.mr_splits.proofs.RisingLemmas.{AtLeast, RisesFrom, at_least-trans, files-rise}

eqb-flip : (a b : ℕ) → eqb a b ≡ eqb b a
eqb-flip a b =
    elim (cases_eq a b) [
      | inl e ↦ eq-eqb a b e ∙ sym (eq-eqb b a (sym e))
      | inr ne ↦ ne_eqb a b ne ∙ sym (ne_eqb b a (λ e. ne (sym e)))
    ]

cond-and : {X : Type 0} (q t : Bool) (x y : X) → cond (q && t) x y ≡ cond q (cond t x y) y
cond-and true t x y = refl
cond-and false t x y = refl

-- the first that passes two tests is the first of those that pass one that passes the other
find-filter : {X : Type 0} (p q t : X → Bool) → ((x : X) → p x ≡ (q x && t x)) → (xs : List X) → find p xs ≡ find t (filter q xs)
find-filter p q t h [] = refl
find-filter p q t h (x ∷ xs) =
    ap (λ b. cond b (Some x) (find p xs)) (h x) ∙ cond-and (q x) (t x) (Some x) (find p xs)
    ∙ ap (λ o. cond (q x) (cond (t x) (Some x) o) o) (find-filter p q t h xs)
    ∙ elim (q x) as (λ b. cond b (cond (t x) (Some x) (find t (filter q xs))) (find t (filter q xs)) ≡ find t (cond b (x ∷ filter q xs) (filter q xs))) [
      | true ↦ refl
      | false ↦ refl
    ]

any-filter : {X : Type 0} (p q t : X → Bool) → ((x : X) → p x ≡ (q x && t x)) → (xs : List X) → list_any p xs ≡ list_any t (filter q xs)
any-filter p q t h [] = refl
any-filter p q t h (x ∷ xs) =
    ap (λ b. b || list_any p xs) (h x) ∙ ap (λ b. (q x && t x) || b) (any-filter p q t h xs)
    ∙ elim (q x) as (λ b. ((b && t x) || list_any t (filter q xs)) ≡ list_any t (cond b (x ∷ filter q xs) (filter q xs))) [
      | true ↦ refl
      | false ↦ refl
    ]

-- the names of a split, then the number there
named-test : (name : RecordName) (r : NamedRecord) → has_record_name name r ≡ (eqb r.name.split name.split && eqb name.rec r.name.rec)
named-test name r = ap (λ b. b && eqb name.rec r.name.rec) (eqb-flip name.split r.name.split)

count-head : (low : ℕ) (x : NamedRecord) (xs : List NamedRecord) → CountFrom low (x ∷ xs) → x.name.rec ≡ low
count-head low x xs h = ap (λ (l : List ℕ). get_or l 0 0) h

count-tail : (low : ℕ) (x : NamedRecord) (xs : List NamedRecord) → CountFrom low (x ∷ xs) → CountFrom (low + 1) xs
count-tail low x xs h = ap (drop 1) h

find-count : (low i : ℕ) (xs : List NamedRecord) → CountFrom low xs → find (λ (r : NamedRecord). eqb (low + i) r.name.rec) xs ≡ slice_get xs i
find-count low i [] h = refl
find-count low zero (x ∷ xs) h =
    ap (λ t. cond t (Some x) (find (λ (r : NamedRecord). eqb (low + 0) r.name.rec) xs)) (eq-eqb (low + 0) x.name.rec (omega (arith, count-head low x xs h)))
find-count low (suc i) (x ∷ xs) h =
    let e : low + 1 + i ≡ low + suc i = omega arith in
    ap (λ t. cond t (Some x) (find (λ (r : NamedRecord). eqb (low + suc i) r.name.rec) xs)) (ne_eqb (low + suc i) x.name.rec (λ n. omega (arith, n, count-head low x xs h)))
    ∙ subst (λ (n : ℕ). find (λ (r : NamedRecord). eqb n r.name.rec) xs ≡ slice_get xs i) e (find-count (low + 1) i xs (count-tail low x xs h))

ltb-suc : (a b : ℕ) → ltb a b ≡ ltb (suc a) (suc b)
ltb-suc a b =
    elim (cases_lt a b) [
      | inl h ↦ lt-ltb a b h ∙ sym (lt-ltb (suc a) (suc b) (omega arith))
      | inr h ↦ le-ltb a b h ∙ sym (le-ltb (suc a) (suc b) (omega arith))
    ]

any-count : (low i : ℕ) (xs : List NamedRecord) → CountFrom low xs → list_any (λ (r : NamedRecord). eqb (low + i) r.name.rec) xs ≡ ltb i (length xs)
any-count low i [] h = sym (le-ltb i 0 (omega arith))
any-count low zero (x ∷ xs) h =
    ap (λ t. t || list_any (λ (r : NamedRecord). eqb (low + 0) r.name.rec) xs) (eq-eqb (low + 0) x.name.rec (omega (arith, count-head low x xs h)))
    ∙ sym (lt-ltb 0 (suc (length xs)) (omega arith))
any-count low (suc i) (x ∷ xs) h =
    let e : low + 1 + i ≡ low + suc i = omega arith in
    ap (λ t. t || list_any (λ (r : NamedRecord). eqb (low + suc i) r.name.rec) xs) (ne_eqb (low + suc i) x.name.rec (λ n. omega (arith, n, count-head low x xs h)))
    ∙ subst (λ (n : ℕ). list_any (λ (r : NamedRecord). eqb n r.name.rec) xs ≡ ltb i (length xs)) e (any-count (low + 1) i xs (count-tail low x xs h))
    ∙ ltb-suc i (length xs)

-- the record of a name is found by its number in its split
pub record_named-is : (size : ℕ) (files : List (List ℕ)) (name : RecordName) → 0 < size
    → record_named (named_records size files) name ≡ slice_get (of_split name.split (named_records size files)) name.rec
record_named-is size files name some =
    let rs : List NamedRecord = named_records size files in
    find-filter (has_record_name name) (λ (r : NamedRecord). eqb r.name.split name.split) (λ (r : NamedRecord). eqb name.rec r.name.rec) (named-test name) rs
    ∙ subst (λ (n : ℕ). find (λ (r : NamedRecord). eqb n r.name.rec) (of_split name.split rs) ≡ slice_get (of_split name.split rs) name.rec)
    (let e : 0 + name.rec ≡ name.rec = omega arith in e) (find-count 0 name.rec (of_split name.split rs) (numbers-count size files name.split some))

pub is_record-is : (size : ℕ) (files : List (List ℕ)) (name : RecordName) → 0 < size
    → is_record (named_records size files) name ≡ ltb name.rec (length (of_split name.split (named_records size files)))
is_record-is size files name some =
    let rs : List NamedRecord = named_records size files in
    any-filter (has_record_name name) (λ (r : NamedRecord). eqb r.name.split name.split) (λ (r : NamedRecord). eqb name.rec r.name.rec) (named-test name) rs
    ∙ subst (λ (n : ℕ). list_any (λ (r : NamedRecord). eqb n r.name.rec) (of_split name.split rs) ≡ ltb name.rec (length (of_split name.split rs)))
    (let e : 0 + name.rec ≡ name.rec = omega arith in e) (any-count 0 name.rec (of_split name.split rs) (numbers-count size files name.split some))

-- no record belongs to a split past the last
pub none-past : (size : ℕ) (files : List (List ℕ)) (s : ℕ) → 0 < size → split_total size files ≤ s → of_split s (named_records size files) ≡ []
none-past size files s some h =
    of_split-before s 0 (0 + split_total size files) (named_records size files) (omega (arith, h)) (splits-all size 0 0 files some)

pub slice_get-at : (xs : List NamedRecord) (i : ℕ) → i < length xs → slice_get xs i ≡ Some (nth_named xs i)
slice_get-at [] i h = absurd (omega arith)
slice_get-at (x ∷ xs) zero h = refl
slice_get-at (x ∷ xs) (suc i) h = slice_get-at xs i (omega arith)

pub slice_get-past : (xs : List NamedRecord) (i : ℕ) → length xs ≤ i → slice_get xs i ≡ None
slice_get-past [] i h = refl
slice_get-past (x ∷ xs) zero h = absurd (omega arith)
slice_get-past (x ∷ xs) (suc i) h = slice_get-past xs i (omega arith)

at-least : (s r j : ℕ) (xs : List NamedRecord) → RisesFrom s r xs → j < length xs → AtLeast s r (nth_named xs j).name
at-least s r j [] h k = absurd (omega arith)
at-least s r zero (x ∷ xs) h k = h.0
at-least s r (suc j) (x ∷ xs) h k =
    at_least-trans s r x.name (nth_named xs j).name h.0
    (elim (at-least x.name.split (x.name.rec + 1) j xs h.1 (omega arith)) [
      | inl lt ↦ inl lt
      | inr e ↦ inr (e.0, omega (arith, e.1))
    ])

apart : (s r i j : ℕ) (xs : List NamedRecord) → RisesFrom s r xs → i < j → j < length xs → (nth_named xs i).name ≢ (nth_named xs j).name
apart s r i j [] h k l e = absurd (omega arith)
apart s r zero zero (x ∷ xs) h k l e = absurd (omega arith)
apart s r zero (suc j) (x ∷ xs) h k l e =
    let split : x.name.split ≡ (nth_named xs j).name.split = ap (λ (n : RecordName). n.split) e in
    let number : x.name.rec ≡ (nth_named xs j).name.rec = ap (λ (n : RecordName). n.rec) e in
    elim (at-least x.name.split (x.name.rec + 1) j xs h.1 (omega arith)) [
      | inl lt ↦ omega (arith, lt, split)
      | inr past ↦ omega (arith, past.1, number)
    ]
apart s r (suc i) zero (x ∷ xs) h k l e = absurd (omega arith)
apart s r (suc i) (suc j) (x ∷ xs) h k l e = apart x.name.split (x.name.rec + 1) i j xs h.1 (omega arith) (omega arith) e

-- two records of one name are one
pub one-name : (size : ℕ) (files : List (List ℕ)) (i j : ℕ) → 0 < size → i < length (named_records size files) → j < length (named_records size files)
    → (nth_named (named_records size files) i).name ≡ (nth_named (named_records size files) j).name → i ≡ j
one-name size files i j some hi hj e =
    let rises : RisesFrom 0 0 (named_records size files) = files-rise size 0 0 files some in
    elim (cases_lt i j) [
      | inl lt ↦ absurd (apart 0 0 i j (named_records size files) rises lt hj e)
      | inr ge ↦ elim (cases_lt j i) [
        | inl lt ↦ absurd (apart 0 0 j i (named_records size files) rises lt hi (sym e))
        | inr le ↦ omega (arith, ge, le)
      ]
    ]

name-from-test : (name : RecordName) (r : NamedRecord) → has_record_name name r ≡ true → r.name ≡ name
name-from-test name r h =
    let parts = and_parts (eqb name.split r.name.split) (eqb name.rec r.name.rec) h in
    let split : r.name.split ≡ name.split = sym (eqb-true name.split r.name.split parts.0) in
    let number : r.name.rec ≡ name.rec = sym (eqb-true name.rec r.name.rec parts.1) in
    ap (λ (s : ℕ). record { split = s; rec = r.name.rec }) split ∙ ap (λ (n : ℕ). record { split = name.split; rec = n }) number

pub test-from-name : (name : RecordName) (r : NamedRecord) → r.name ≡ name → has_record_name name r ≡ true
test-from-name name r e =
    and_from (eqb name.split r.name.split) (eqb name.rec r.name.rec)
    (eq-eqb name.split r.name.split (sym (ap (λ (n : RecordName). n.split) e)))
    (eq-eqb name.rec r.name.rec (sym (ap (λ (n : RecordName). n.rec) e)))

or-true : (a : Bool) → (a || true) ≡ true
or-true true = refl
or-true false = refl

or-false : (a : Bool) → (a || false) ≡ a
or-false true = refl
or-false false = refl

-- the flag of the one record of that name
pub marked : (rs : List NamedRecord) (name : RecordName) (flags : List Bool) (at i : ℕ) → length flags ≡ length rs → at < length rs
    → (nth_named rs at).name ≡ name → ((k : ℕ) → k < length rs → (nth_named rs k).name ≡ name → k ≡ at) → i < length rs
    → get_or (set flags at true) i false ≡ (get_or flags i false || has_record_name name (nth_named rs i))
marked rs name flags at i count inside is only h =
    elim (cases_eq i at) [
      | inl e ↦
          subst (λ (k : ℕ). get_or (set flags at true) k false ≡ (get_or flags k false || has_record_name name (nth_named rs k))) (sym e)
          (get_or-set_same flags at true false (omega (arith, count, inside))
          ∙ sym (ap (λ b. get_or flags at false || b) (test-from-name name (nth_named rs at) is) ∙ or-true (get_or flags at false)))
      | inr ne ↦
          let other : has_record_name name (nth_named rs i) ≡ false =
          elim (cases_Bool (has_record_name name (nth_named rs i))) [
            | inl yes' ↦ absurd (ne (only i h (name-from-test name (nth_named rs i) yes')))
            | inr no' ↦ no'
          ] in
          get_or-set_other flags at i true false ne
          ∙ sym (ap (λ b. get_or flags i false || b) other ∙ or-false (get_or flags i false))
    ]

-- no flag, where there is no record of that name
pub unmarked : (rs : List NamedRecord) (name : RecordName) (flags : List Bool) (i : ℕ) → is_record rs name ≡ false → i < length rs
    → get_or flags i false ≡ (get_or flags i false || has_record_name name (nth_named rs i))
unmarked rs name flags i none h =
    let other : has_record_name name (nth_named rs i) ≡ false =
    elim (cases_Bool (has_record_name name (nth_named rs i))) [
      | inl yes' ↦ absurd (false≢true (sym none ∙ list_any_at (has_record_name name) rs i (record { name = record { split = 0; rec = 0 }; file = 0; start = 0; bytes = [] }) h yes'))
      | inr no' ↦ no'
    ] in
    sym (ap (λ b. get_or flags i false || b) other ∙ or-false (get_or flags i false))

pub flags-are : (skips : List RecordName) (rs : List NamedRecord) (flags : List Bool) → length flags ≡ length rs
    → ((i : ℕ) → i < length rs → get_or flags i false ≡ is_left_out skips (nth_named rs i).name) → flags ≡ left_out_flags skips rs
flags-are skips rs flags count each =
    same_lists flags (left_out_flags skips rs) (count ∙ sym (length-map rs (λ (r : NamedRecord). is_left_out skips r.name)))
    (λ k d h.
    let here : k < length rs = omega (arith, h, count) in
    get_or_default flags k d false h ∙ each k here
    ∙ sym (get_or-map (λ (r : NamedRecord). is_left_out skips r.name) rs k (record { name = record { split = 0; rec = 0 }; file = 0; start = 0; bytes = [] }) d here))

pub find-none : (p : NamedRecord → Bool) (xs : List NamedRecord) → list_any p xs ≡ false → find p xs ≡ None
find-none p [] h = refl
find-none p (x ∷ xs) h =
    let parts = or_parts (p x) (list_any p xs) h in
    ap (λ b. cond b (Some x) (find p xs)) parts.0 ∙ find-none p xs parts.1

-- the record `r` of the split `s` is the one of that name
pub named-at : (size : ℕ) (files : List (List ℕ)) (s r : ℕ) → 0 < size → r < length (of_split s (named_records size files))
    → record_named (named_records size files) (record { split = s; rec = r }) ≡ Some (nth_named (of_split s (named_records size files)) r)
named-at size files s r some h =
    record_named-is size files (record { split = s; rec = r }) some ∙ slice_get-at (of_split s (named_records size files)) r h

some-same : (x y : NamedRecord) → ◌≡◌ {A = Option NamedRecord} (Some x) (Some y) → x ≡ y
some-same x y h = cc

find-passes : (p : NamedRecord → Bool) (xs : List NamedRecord) (x : NamedRecord) → find p xs ≡ Some x → p x ≡ true
find-passes p [] x h = cc
find-passes p (y ∷ ys) x h =
    elim (cases_Bool (p y)) [
      | inl yes' ↦
          let same : y ≡ x = some-same y x (sym (ap (λ b. cond b (Some y) (find p ys)) yes') ∙ h) in
          ap p (sym same) ∙ yes'
      | inr no' ↦ find-passes p ys x (sym (ap (λ b. cond b (Some y) (find p ys)) no') ∙ h)
    ]

-- it has that name
pub name-at : (size : ℕ) (files : List (List ℕ)) (s r : ℕ) → 0 < size → r < length (of_split s (named_records size files))
    → (nth_named (of_split s (named_records size files)) r).name ≡ record { split = s; rec = r }
name-at size files s r some h =
    let x : NamedRecord = nth_named (of_split s (named_records size files)) r in
    name-from-test (record { split = s; rec = r }) x
    (find-passes (has_record_name (record { split = s; rec = r })) (named_records size files) x (named-at size files s r some h))

-- an empty list leaves none out
pub none-left-out : (rs : List NamedRecord) → left_out_flags [] rs ≡ replicate (length rs) false
none-left-out [] = refl
none-left-out (r ∷ rs) = ap (λ (l : List Bool). false ∷ l) (none-left-out rs)

-- flags that are kept as no list
pub flags-none : (skips : List RecordName) (rs : List NamedRecord) (flags : List Bool) (count : ℕ) → count ≡ length rs → length skips ≡ 0
    → flags ≡ [] → flags_of count flags ≡ left_out_flags skips rs
flags-none skips rs flags count same none empty =
    ap (flags_of count) empty ∙ ap (λ (n : ℕ). replicate n false) same ∙ sym (none-left-out rs)
    ∙ ap (λ (ss : List RecordName). left_out_flags ss rs) (sym (nil_from_length skips none))
