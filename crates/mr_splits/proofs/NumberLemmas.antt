-- The records of a split are numbered from 0.
use Rattle.std.proofs.Common.{◌≡◌, ℕ, ◌+◌, ◌-◌, ◌/◌, ◌<◌, ◌≤◌, Bool, true, false, cond, eqb, List, [], ◌∷◌, ◌++◌, length, refl, sym, ◌∙◌, ap, subst, arith, inl, inr, map}
use Rattle.std.proofs.lemmas.Bool.{cases_eq, cases_lt, eq-eqb, ne_eqb}
use Rattle.std.proofs.lemmas.List.{append-nil}
use Rattle.std.proofs.lemmas.List.Elements.{filter-append}
use Rattle.std.specs.List.{range_with_len}
use Rattle.mr_records.specs.Records.{Record, records}
use Rattle.mr_input.specs.Files.{split_count, split_total}
use Rattle.mr_splits.specs.Named.{NamedRecord, named_from, named_files, of_split}
use Rattle.mr_splits.specs.Laws.{NumbersCount}
use Rattle.mr_splits.proofs.StartLemmas.{StartsIn, starts-file, div-rises}
use Rattle.mr_splits.proofs.JoinedLemmas.{SplitsIn, splits-lower, splits-named, splits-file, splits-all, of_split-same, of_split-other, of_split-past}

-- the numbers of the records of a list
abbrev pub numbers : List NamedRecord → List ℕ
numbers rs = map (λ (r : NamedRecord). r.name.rec) rs

-- they count from `low`
abbrev pub CountFrom : ℕ → List NamedRecord → Type 0
CountFrom low rs = numbers rs ≡ range_with_len low (length rs)

-- the records of a split lie before all later ones
pub of_split-before : (s low high : ℕ) (rs : List NamedRecord) → high ≤ s → SplitsIn low high rs → of_split s rs ≡ []
of_split-before s low high [] h i = refl
of_split-before s low high (r ∷ rs) h i =
    of_split-other s r rs (λ e. omega (arith, e, h, i.1)) ∙ of_split-before s r.name.split high rs h i.2

count-none : (low : ℕ) (rs : List NamedRecord) → rs ≡ [] → CountFrom low rs
count-none low rs e = subst (CountFrom low) (sym e) refl

count-named : (size file first split next low high s : ℕ) (rs : List Record) → 0 < size → StartsIn low high rs → split ≤ first + low / size
    → CountFrom (cond (eqb s split) next 0) (of_split s (named_from size file first split next rs))
unfolding named_from
count-named size file first split next low high s [] some starts order = refl
count-named size file first split next low high s (r ∷ rs) some starts order =
    let here : ℕ = first + r.start / size in
    let number : ℕ = cond (eqb here split) next 0 in
    let one : NamedRecord = record { name = record { split = here; rec = number }; file = file; start = r.start; bytes = r.bytes } in
    let rest : List NamedRecord = named_from size file first here (number + 1) rs in
    let up : split ≤ here = omega (arith, order, div-rises size low r.start some starts.0) in
    let on : here ≤ first + (r.start + 1) / size = omega (arith, div-rises size r.start (r.start + 1) some (omega arith)) in
    let later : CountFrom (cond (eqb s here) (number + 1) 0) (of_split s rest) =
    count-named size file first here (number + 1) (r.start + 1) high s rs some starts.2 on in
    elim (cases_eq here s) [
      | inl same ↦
          let next' : CountFrom (number + 1) (of_split s rest) =
          subst (λ t. CountFrom (cond t (number + 1) 0) (of_split s rest)) (eq-eqb s here (sym same)) later in
          let begin : number ≡ cond (eqb s split) next 0 = ap (λ k. cond (eqb k split) next 0) same in
          subst (λ k. CountFrom k (of_split s (one ∷ rest))) begin
          (subst (CountFrom number) (sym (of_split-same s one rest same)) (ap (λ l. number ∷ l) next'))
      | inr other ↦
          let zeros : CountFrom 0 (of_split s rest) =
          subst (λ t. CountFrom (cond t (number + 1) 0) (of_split s rest)) (ne_eqb s here (λ e. other (sym e))) later in
          subst (CountFrom (cond (eqb s split) next 0)) (sym (of_split-other s one rest other))
          (elim (cases_eq s split) [
            | inl here' ↦
                count-none (cond (eqb s split) next 0) (of_split s rest)
                (of_split-past s here (first + (high + size - 1) / size) rest (omega (arith, up, other, here'))
                (splits-lower here (first + (r.start + 1) / size) (first + (high + size - 1) / size) rest on
                (splits-named size file first here (number + 1) (r.start + 1) high (first + (high + size - 1) / size) rs some starts.2 (omega arith))))
            | inr ne ↦ subst (λ t. CountFrom (cond t next 0) (of_split s rest)) (sym (ne_eqb s split ne)) zeros
          ])
    ]

cond-same : (t : Bool) → ◌≡◌ {A = ℕ} (cond t 0 0) 0
cond-same true = refl
cond-same false = refl

count-file : (size file first s : ℕ) (f : List ℕ) → 0 < size → CountFrom 0 (of_split s (named_from size file first first 0 (records f)))
count-file size file first s f some =
    subst (λ k. CountFrom k (of_split s (named_from size file first first 0 (records f)))) (cond-same (eqb s first))
    (count-named size file first first 0 0 (length f) s (records f) some (starts-file f) (omega arith))

count-files : (size file first s : ℕ) (files : List (List ℕ)) → 0 < size → CountFrom 0 (of_split s (named_files size file first files))
unfolding named_files
count-files size file first s [] some = refl
count-files size file first s (f ∷ fs) some =
    let mid : ℕ = first + split_count size f in
    let one : List NamedRecord = named_from size file first first 0 (records f) in
    let rest : List NamedRecord = named_files size (file + 1) mid fs in
    let parts : of_split s (one ++ rest) ≡ of_split s one ++ of_split s rest = filter-append (λ (r : NamedRecord). eqb r.name.split s) one rest in
    subst (CountFrom 0) (sym parts)
    (elim (cases_lt s mid) [
      | inl before ↦
          let none : of_split s rest ≡ [] = of_split-past s mid (mid + split_total size fs) rest before (splits-all size (file + 1) mid fs some) in
          subst (CountFrom 0) (sym (ap (λ l. of_split s one ++ l) none ∙ append-nil (of_split s one))) (count-file size file first s f some)
      | inr after ↦
          let none : of_split s one ≡ [] = of_split-before s first mid one after (splits-file size file first f some) in
          subst (CountFrom 0) (sym (ap (λ l. l ++ of_split s rest) none)) (count-files size (file + 1) mid s fs some)
    ])

pub numbers-count : NumbersCount
numbers-count size files s some = count-files size 0 0 s files some
