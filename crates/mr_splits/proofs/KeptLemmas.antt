-- The records that are kept, one after another.
use Rattle.std.proofs.Common.{◌≡◌, ◌⊎◌, inl, inr, sym, ℕ, zero, suc, ◌+◌, ◌-◌, ◌<◌, ◌≤◌, Bool, true, false, cond, not, List, [], ◌∷◌, ◌++◌, length, get_or, drop, refl, ◌∙◌, ap, arith, length-append}
use Rattle.std.proofs.lemmas.List.{append-nil, length-replicate, drop_more, get_or_append_left}
use Rattle.mr_input.specs.Files.{split_total}
use Rattle.mr_splits.specs.Named.{NamedRecord, of_split, is_left_out}
use Rattle.mr_splits.specs.Cut.{records_of, nth_named, flags_of}
use Rattle.mr_splits.specs.Laws.{joined_splits}
use Rattle.mr_splits.specs.Kept.{Choice, kept_records, kept_from, kept_between}
use Rattle.mr_splits.proofs.JoinedLemmas.{joined-suc, joined-zero, splits-join}

joined-next : (rs : List NamedRecord) (s end : ℕ) → s < end
    → joined_splits s (end - s) rs ≡ of_split s rs ++ joined_splits (s + 1) (end - (s + 1)) rs
joined-next rs s end h =
    let more : end - s ≡ suc (end - (s + 1)) = omega arith in
    ap (λ (n : ℕ). joined_splits s n rs) more ∙ joined-suc s (end - (s + 1)) rs

drop-front : (xs ys : List NamedRecord) → drop (length xs) (xs ++ ys) ≡ ys
drop-front [] ys = refl
drop-front (x ∷ xs) ys = drop-front xs ys

drop-none : (n : ℕ) → ◌≡◌ {A = List NamedRecord} (drop n []) []
drop-none zero = refl
drop-none (suc n) = refl

-- behind the last record of a split stand those of the next ones
pub split-behind : (choice : Choice) (s number end : ℕ) → s < end → number ≡ length (of_split s (records_of choice.cut))
    → kept_from choice s number end ≡ kept_from choice (s + 1) 0 end
split-behind choice s number end h e =
    let rs : List NamedRecord = records_of choice.cut in
    ap (λ (n : ℕ). kept_records choice.skips (drop n (joined_splits s (end - s) rs))) e
    ∙ ap (λ (l : List NamedRecord). kept_records choice.skips (drop (length (of_split s rs)) l)) (joined-next rs s end h)
    ∙ ap (kept_records choice.skips) (drop-front (of_split s rs) (joined_splits (s + 1) (end - (s + 1)) rs))

left-behind : (rs : List NamedRecord) (s number end : ℕ) → s < end → number < length (of_split s rs)
    → drop number (joined_splits s (end - s) rs) ≡ nth_named (of_split s rs) number ∷ drop (number + 1) (joined_splits s (end - s) rs)
left-behind rs s number end h k =
    let none : NamedRecord = record { name = record { split = 0; rec = 0 }; file = 0; start = 0; bytes = [] } in
    let behind : List NamedRecord = joined_splits (s + 1) (end - (s + 1)) rs in
    let all : joined_splits s (end - s) rs ≡ of_split s rs ++ behind = joined-next rs s end h in
    drop_more (joined_splits s (end - s) rs) number none (omega (arith, k, ap length all, length-append (of_split s rs) behind))
    ∙ ap (λ (l : List NamedRecord). get_or l number none ∷ drop (number + 1) (joined_splits s (end - s) rs)) all
    ∙ ap (λ (r : NamedRecord). r ∷ drop (number + 1) (joined_splits s (end - s) rs)) (get_or_append_left (of_split s rs) behind none number k)

-- a record that is kept is the first, and one that is left out is passed over
pub record-kept : (choice : Choice) (s number end : ℕ) → s < end → number < length (of_split s (records_of choice.cut))
    → is_left_out choice.skips (nth_named (of_split s (records_of choice.cut)) number).name ≡ false
    → kept_from choice s number end ≡ nth_named (of_split s (records_of choice.cut)) number ∷ kept_from choice s (number + 1) end
record-kept choice s number end h k kept =
    let rs : List NamedRecord = records_of choice.cut in
    let r : NamedRecord = nth_named (of_split s rs) number in
    let later : List NamedRecord = kept_from choice s (number + 1) end in
    ap (kept_records choice.skips) (left-behind rs s number end h k)
    ∙ ap (λ b. cond (not b) (r ∷ later) later) kept

pub record-left : (choice : Choice) (s number end : ℕ) → s < end → number < length (of_split s (records_of choice.cut))
    → is_left_out choice.skips (nth_named (of_split s (records_of choice.cut)) number).name ≡ true
    → kept_from choice s number end ≡ kept_from choice s (number + 1) end
record-left choice s number end h k left =
    let rs : List NamedRecord = records_of choice.cut in
    let r : NamedRecord = nth_named (of_split s rs) number in
    let later : List NamedRecord = kept_from choice s (number + 1) end in
    ap (kept_records choice.skips) (left-behind rs s number end h k)
    ∙ ap (λ b. cond (not b) (r ∷ later) later) left

pub none-kept : (choice : Choice) (s number end : ℕ) → end ≤ s → kept_from choice s number end ≡ []
none-kept choice s number end h =
    let rs : List NamedRecord = records_of choice.cut in
    let none : end - s ≡ 0 = omega arith in
    ap (λ (n : ℕ). kept_records choice.skips (drop number (joined_splits s n rs))) none
    ∙ ap (λ (l : List NamedRecord). kept_records choice.skips (drop number l)) (joined-zero s rs)
    ∙ ap (kept_records choice.skips) (drop-none number)

-- how many steps are left: a split or a record each
abbrev pub steps_left : List NamedRecord → ℕ → ℕ → ℕ → ℕ
steps_left rs s number end = (end - s) + length (drop number (joined_splits s (end - s) rs))

pub fewer-splits : (rs : List NamedRecord) (s number end : ℕ) → s < end → number ≡ length (of_split s rs)
    → steps_left rs (s + 1) 0 end < steps_left rs s number end
fewer-splits rs s number end h e =
    let same : drop number (joined_splits s (end - s) rs) ≡ joined_splits (s + 1) (end - (s + 1)) rs =
    ap (λ (n : ℕ). drop n (joined_splits s (end - s) rs)) e
    ∙ ap (drop (length (of_split s rs))) (joined-next rs s end h)
    ∙ drop-front (of_split s rs) (joined_splits (s + 1) (end - (s + 1)) rs) in
    omega (arith, h, ap length same)

pub fewer-records : (rs : List NamedRecord) (s number end : ℕ) → s < end → number < length (of_split s rs)
    → steps_left rs s (number + 1) end < steps_left rs s number end
fewer-records rs s number end h k = omega (arith, ap length (left-behind rs s number end h k))

-- one split, and all of them
pub kept-of_split : (choice : Choice) (s : ℕ) → kept_between choice s (s + 1) ≡ kept_records choice.skips (of_split s (records_of choice.cut))
kept-of_split choice s =
    let rs : List NamedRecord = records_of choice.cut in
    let one : s + 1 - s ≡ suc 0 = omega arith in
    ap (λ (n : ℕ). kept_records choice.skips (joined_splits s n rs)) one
    ∙ ap (kept_records choice.skips)
    (joined-suc s 0 rs ∙ ap (λ (l : List NamedRecord). of_split s rs ++ l) (joined-zero (s + 1) rs) ∙ append-nil (of_split s rs))

pub kept-all : (choice : Choice) (total : ℕ) → 0 < choice.cut.size → total ≡ split_total choice.cut.size choice.cut.files
    → kept_between choice 0 total ≡ kept_records choice.skips (records_of choice.cut)
kept-all choice total some is =
    let e : total - 0 ≡ split_total choice.cut.size choice.cut.files = omega (arith, is) in
    ap (λ (n : ℕ). kept_records choice.skips (joined_splits 0 n (records_of choice.cut))) e
    ∙ ap (kept_records choice.skips) (splits-join choice.cut.size choice.cut.files some)

-- there are as many flags as records, also where they are kept as no list
pub flags-count : (count : ℕ) (flags all : List Bool) → flags_of count flags ≡ all → (flags ≡ []) ⊎ (length flags ≡ count) → length all ≡ count
flags-count count [] all is kept = sym (ap length is) ∙ length-replicate count false
flags-count count (b ∷ bs) all is (inl none) = cc
flags-count count (b ∷ bs) all is (inr e) = sym (ap length is) ∙ e
