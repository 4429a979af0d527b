-- The named records of two lists of files, one behind the other.
use Rattle.std.proofs.Common.{◌≡◌, ℕ, ◌+◌, ◌/◌, ◌++◌, List, [], ◌∷◌, length, refl, ap, sym, ◌∙◌, cond, eqb, map, arith, inl, inr}
use Rattle.std.proofs.lemmas.Bool.{cases_eq, eq-eqb, ne_eqb}
use Rattle.std.proofs.lemmas.List.{append_assoc, map-append}
use Rattle.mr_records.specs.Records.{Record, records}
use Rattle.mr_input.specs.Files.{split_count, split_total}
use Rattle.mr_splits.specs.Named.{NamedRecord, named_from, named_files, named_records}
use Rattle.mr_shards.specs.Spots.{moved_name}

-- a record where so many files and splits come before its own

abbrev pub moved_record : ℕ → ℕ → NamedRecord → NamedRecord
moved_record files splits r = record { name = moved_name splits r.name; file = files + r.file; start = r.start; bytes = r.bytes }

pub eqb-moved : (m a b : ℕ) → eqb (m + a) (m + b) ≡ eqb a b
eqb-moved m a b =
    elim (cases_eq a b) [
      | inl e ↦ eq-eqb (m + a) (m + b) (omega (arith, e)) ∙ sym (eq-eqb a b e)
      | inr ne ↦ ne_eqb (m + a) (m + b) (λ e. ne (omega (arith, e))) ∙ sym (ne_eqb a b ne)
    ]

-- ---- named records

named_from-moved : (size n m file first split next : ℕ) (rs : List Record)
    → named_from size (n + file) (m + first) (m + split) next rs ≡ map (moved_record n m) (named_from size file first split next rs)
unfolding named_from
named_from-moved size n m file first split next [] = refl
named_from-moved size n m file first split next (r ∷ rs) =
    let here : ℕ = first + r.start / size in
    let moved : ℕ = m + first + r.start / size in
    let same : moved ≡ m + here = omega arith in
    let number : cond (eqb moved (m + split)) next 0 ≡ cond (eqb here split) next 0 =
    ap (λ k. cond (eqb k (m + split)) next 0) same ∙ ap (λ b. cond b next 0) (eqb-moved m here split) in
    let rest : named_from size (n + file) (m + first) moved (cond (eqb moved (m + split)) next 0 + 1) rs
    ≡ map (moved_record n m) (named_from size file first here (cond (eqb here split) next 0 + 1) rs) =
    ap (λ k. named_from size (n + file) (m + first) moved (k + 1) rs) number
    ∙ ap (λ k. named_from size (n + file) (m + first) k (cond (eqb here split) next 0 + 1) rs) same
    ∙ named_from-moved size n m file first here (cond (eqb here split) next 0 + 1) rs in
    λ i. record { name = record { split = same i; rec = number i }; file = n + file; start = r.start; bytes = r.bytes } ∷ rest i

named_files-moved : (size n m file first : ℕ) (fs : List (List ℕ))
    → named_files size (n + file) (m + first) fs ≡ map (moved_record n m) (named_files size file first fs)
unfolding named_files
named_files-moved size n m file first [] = refl
named_files-moved size n m file first (f ∷ fs) =
    let later : n + file + 1 ≡ n + (file + 1) = omega arith in
    let next : m + first + split_count size f ≡ m + (first + split_count size f) = omega arith in
    ap (λ k. named_from size (n + file) (m + first) (m + first) 0 (records f) ++ named_files size k (m + first + split_count size f) fs) later
    ∙ ap (λ k. named_from size (n + file) (m + first) (m + first) 0 (records f) ++ named_files size (n + (file + 1)) k fs) next
    ∙ ap (λ l. l ++ named_files size (n + (file + 1)) (m + (first + split_count size f)) fs) (named_from-moved size n m file first first 0 (records f))
    ∙ ap (λ l. map (moved_record n m) (named_from size file first first 0 (records f)) ++ l) (named_files-moved size n m (file + 1) (first + split_count size f) fs)
    ∙ sym (map-append (moved_record n m) (named_from size file first first 0 (records f)) (named_files size (file + 1) (first + split_count size f) fs))

named_files-append : (size file first : ℕ) (fs gs : List (List ℕ))
    → named_files size file first (fs ++ gs) ≡ named_files size file first fs ++ named_files size (length fs + file) (split_total size fs + first) gs
unfolding named_files split_total
named_files-append size file first [] gs =
    let a : file ≡ 0 + file = omega arith in
    let b : first ≡ 0 + first = omega arith in
    ap (λ k. named_files size k first gs) a ∙ ap (λ k. named_files size (0 + file) k gs) b
named_files-append size file first (f ∷ fs) gs =
    let one : List NamedRecord = named_from size file first first 0 (records f) in
    let mid : ℕ = first + split_count size f in
    let a : length fs + (file + 1) ≡ length (f ∷ fs) + file = omega arith in
    let b : split_total size fs + mid ≡ split_count size f + split_total size fs + first = omega arith in
    ap (λ l. one ++ l) (named_files-append size (file + 1) mid fs gs)
    ∙ sym (append_assoc one (named_files size (file + 1) mid fs) (named_files size (length fs + (file + 1)) (split_total size fs + mid) gs))
    ∙ ap (λ k. (one ++ named_files size (file + 1) mid fs) ++ named_files size k (split_total size fs + mid) gs) a
    ∙ ap (λ k. (one ++ named_files size (file + 1) mid fs) ++ named_files size (length (f ∷ fs) + file) k gs) b

-- the records of both, those of the second behind the first's files and splits
pub named-append : (size : ℕ) (fs gs : List (List ℕ))
    → named_records size (fs ++ gs) ≡ named_records size fs ++ map (moved_record (length fs) (split_total size fs)) (named_records size gs)
named-append size fs gs =
    named_files-append size 0 0 fs gs
    ∙ ap (λ l. named_records size fs ++ l) (named_files-moved size (length fs) (split_total size fs) 0 0 gs)
