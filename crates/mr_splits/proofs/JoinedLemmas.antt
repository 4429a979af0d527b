-- Splits of named records, joined.
use Rattle.std.proofs.Common.{◌≡◌, ◌≢◌, ℕ, zero, suc, ◌+◌, ◌-◌, ◌/◌, ◌<◌, ◌≤◌, cond, eqb, List, [], ◌∷◌, ◌++◌, length, refl, sym, ◌∙◌, ap, subst, arith, inl, inr, map}
use Rattle.std.proofs.lemmas.Bool.{cases_eq, eq-eqb, ne_eqb}
use Rattle.std.proofs.lemmas.List.{map-append}
use Rattle.std.specs.List.{flat_map}
use Rattle.mr_records.specs.Records.{Record, records}
use Rattle.mr_input.specs.Files.{split_count, split_total}
use Rattle.mr_splits.specs.Named.{NamedRecord, named_from, named_files, named_records, of_split}
use Rattle.mr_splits.specs.Laws.{joined_splits, record_of, SplitsJoin, NamedAreRecords}
use Rattle.mr_splits.proofs.StartLemmas.{StartsIn, starts-file, div-rises, div-within}

-- splits do not fall, and lie within bounds
abbrev pub SplitsIn : ℕ → ℕ → List NamedRecord → Type 0
SplitsIn low high [] = Unit {0}
SplitsIn low high (r ∷ rs) = (low ≤ r.name.split) × (r.name.split < high) × SplitsIn r.name.split high rs

pub splits-lower : (low low' high : ℕ) (rs : List NamedRecord) → low ≤ low' → SplitsIn low' high rs → SplitsIn low high rs
splits-lower low low' high [] h s = tt
splits-lower low low' high (r ∷ rs) h s = (omega (arith, h, s.0), s.1, s.2)

pub of_split-same : (s : ℕ) (r : NamedRecord) (rs : List NamedRecord) → r.name.split ≡ s → of_split s (r ∷ rs) ≡ r ∷ of_split s rs
of_split-same s r rs e = ap (λ t. cond t (r ∷ of_split s rs) (of_split s rs)) (eq-eqb r.name.split s e)

pub of_split-other : (s : ℕ) (r : NamedRecord) (rs : List NamedRecord) → r.name.split ≢ s → of_split s (r ∷ rs) ≡ of_split s rs
of_split-other s r rs e = ap (λ t. cond t (r ∷ of_split s rs) (of_split s rs)) (ne_eqb r.name.split s e)

pub of_split-past : (s low high : ℕ) (rs : List NamedRecord) → s < low → SplitsIn low high rs → of_split s rs ≡ []
of_split-past s low high [] h i = refl
of_split-past s low high (r ∷ rs) h i =
    of_split-other s r rs (λ e. omega (arith, e, h, i.0)) ∙ of_split-past s r.name.split high rs (omega (arith, h, i.0)) i.2

pub joined-zero : (low : ℕ) (rs : List NamedRecord) → joined_splits low 0 rs ≡ []
unfolding joined_splits
joined-zero low rs = refl

pub joined-suc : (low n : ℕ) (rs : List NamedRecord) → joined_splits low (suc n) rs ≡ of_split low rs ++ joined_splits (low + 1) n rs
unfolding joined_splits
joined-suc low n rs = refl

-- a record of an earlier split
joined-skip : (n low : ℕ) (r : NamedRecord) (rs : List NamedRecord) → r.name.split < low → joined_splits low n (r ∷ rs) ≡ joined_splits low n rs
joined-skip zero low r rs h = joined-zero low (r ∷ rs) ∙ sym (joined-zero low rs)
joined-skip (suc n) low r rs h =
    joined-suc low n (r ∷ rs)
    ∙ ap (λ l. l ++ joined_splits (low + 1) n (r ∷ rs)) (of_split-other low r rs (λ e. omega (arith, e, h)))
    ∙ ap (λ l. of_split low rs ++ l) (joined-skip n (low + 1) r rs (omega (arith, h))) ∙ sym (joined-suc low n rs)

joined-more : (n low : ℕ) → ((rs : List NamedRecord) → SplitsIn (low + 1) (low + 1 + n) rs → joined_splits (low + 1) n rs ≡ rs)
    → (rs : List NamedRecord) → SplitsIn low (low + suc n) rs → joined_splits low (suc n) rs ≡ rs
joined-more n low later [] i = joined-suc low n [] ∙ later [] tt
joined-more n low later (r ∷ rs) i =
    elim (cases_eq r.name.split low) [
      | inl e ↦
          joined-suc low n (r ∷ rs) ∙ ap (λ l. l ++ joined_splits (low + 1) n (r ∷ rs)) (of_split-same low r rs e)
          ∙ ap (λ l. r ∷ (of_split low rs ++ l)) (joined-skip n (low + 1) r rs (omega (arith, e)))
          ∙ ap (λ l. r ∷ l) (sym (joined-suc low n rs) ∙ joined-more n low later rs (splits-lower low r.name.split (low + suc n) rs i.0 i.2))
      | inr ne ↦
          let past : SplitsIn (low + 1) (low + suc n) (r ∷ rs) = (omega (arith, ne, i.0), i.1, i.2) in
          let moved : SplitsIn (low + 1) (low + 1 + n) (r ∷ rs) =
          subst (λ k. SplitsIn (low + 1) k (r ∷ rs)) (let e : low + suc n ≡ low + 1 + n = omega arith in e) past in
          joined-suc low n (r ∷ rs) ∙ ap (λ l. l ++ joined_splits (low + 1) n (r ∷ rs)) (of_split-past low (low + 1) (low + suc n) (r ∷ rs) (omega arith) past)
          ∙ later (r ∷ rs) moved
    ]

joined-all : (n low : ℕ) (rs : List NamedRecord) → SplitsIn low (low + n) rs → joined_splits low n rs ≡ rs
joined-all zero low [] i = joined-zero low []
joined-all zero low (r ∷ rs) i = absurd (omega (arith, i.0, i.1))
joined-all (suc n) low rs i = joined-more n low (joined-all n (low + 1)) rs i

pub splits-append : (low mid high : ℕ) (xs ys : List NamedRecord) → low ≤ mid → mid ≤ high → SplitsIn low mid xs → SplitsIn mid high ys → SplitsIn low high (xs ++ ys)
splits-append low mid high [] ys h k i j = splits-lower low mid high ys h j
splits-append low mid high (x ∷ xs) ys h k i j =
    (i.0, omega (arith, i.1, k), splits-append x.name.split mid high xs ys (omega (arith, i.1)) k i.2 j)

pub splits-named : (size file first split next low high limit : ℕ) (rs : List Record) → 0 < size → StartsIn low high rs
    → first + (high + size - 1) / size ≤ limit → SplitsIn (first + low / size) limit (named_from size file first split next rs)
unfolding named_from
splits-named size file first split next low high limit [] some starts room = tt
splits-named size file first split next low high limit (r ∷ rs) some starts room =
    let here : ℕ = first + r.start / size in
    let number : ℕ = cond (eqb here split) next 0 in (
      omega (arith, div-rises size low r.start some starts.0),
      omega (arith, div-within size r.start high some starts.1, room),
      splits-lower here (first + (r.start + 1) / size) limit (named_from size file first here (number + 1) rs)
          (omega (arith, div-rises size r.start (r.start + 1) some (omega arith)))
          (splits-named size file first here (number + 1) (r.start + 1) high limit rs some starts.2 room),
    )

-- the records of one file lie in its splits
pub splits-file : (size file first : ℕ) (f : List ℕ) → 0 < size
    → SplitsIn first (first + split_count size f) (named_from size file first first 0 (records f))
splits-file size file first f some =
    splits-lower first (first + 0 / size) (first + split_count size f) (named_from size file first first 0 (records f)) (omega arith)
    (splits-named size file first first 0 0 (length f) (first + split_count size f) (records f) some (starts-file f) (omega arith))

pub splits-all : (size file first : ℕ) (files : List (List ℕ)) → 0 < size → SplitsIn first (first + split_total size files) (named_files size file first files)
unfolding named_files split_total
splits-all size file first [] some = tt
splits-all size file first (f ∷ fs) some =
    let mid : ℕ = first + split_count size f in
    let later : SplitsIn mid (first + split_total size (f ∷ fs)) (named_files size (file + 1) mid fs) =
    subst (λ n. SplitsIn mid n (named_files size (file + 1) mid fs)) (let e : mid + split_total size fs ≡ first + (split_count size f + split_total size fs) = omega arith in e)
    (splits-all size (file + 1) mid fs some) in
    splits-append first mid (first + split_total size (f ∷ fs)) (named_from size file first first 0 (records f)) (named_files size (file + 1) mid fs)
    (omega arith) (omega arith) (splits-file size file first f some) later

pub splits-join : SplitsJoin
splits-join size files some =
    joined-all (split_total size files) 0 (named_records size files)
    (subst (λ n. SplitsIn 0 n (named_records size files)) refl (splits-all size 0 0 files some))

pub named-of : (size file first split next : ℕ) (rs : List Record) → map record_of (named_from size file first split next rs) ≡ rs
unfolding named_from
named-of size file first split next [] = refl
named-of size file first split next (r ∷ rs) =
    let here : ℕ = first + r.start / size in
    ap (λ l. r ∷ l) (named-of size file first here (cond (eqb here split) next 0 + 1) rs)

all-of : (size file first : ℕ) (files : List (List ℕ)) → map record_of (named_files size file first files) ≡ flat_map records files
unfolding named_files
all-of size file first [] = refl
all-of size file first (f ∷ fs) =
    let mid : ℕ = first + split_count size f in
    map-append record_of (named_from size file first first 0 (records f)) (named_files size (file + 1) mid fs)
    ∙ ap (λ l. l ++ map record_of (named_files size (file + 1) mid fs)) (named-of size file first first 0 (records f))
    ∙ ap (λ l. records f ++ l) (all-of size (file + 1) mid fs)

pub named-are-records : NamedAreRecords
named-are-records size files = all-of size 0 0 files
